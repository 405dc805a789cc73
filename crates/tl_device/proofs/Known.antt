-- What is printed, piece by piece.
use Rattle.std.proofs.Common.{◌≡◌, ℕ, ◌+◌, ◌-◌, List, [], ◌++◌, length, take, drop, refl, sym, ◌∙◌, ap, append_assoc}
use Rattle.std.proofs.lemmas.List.{append-nil, take_rest, take-append-drop}
use Rattle.std.proofs.Math.Seq.{take-add}
use Rattle.std.specs.declared.option.Option.{Option}
use Rattle.std.specs.declared.option.Option.TheVariants.{Some, None}
use Rattle.std.specs.Io.KnownBytes.{append_known}
use Rattle.tl_device.specs.Contents.{PrintedInPart}

-- to print no bytes changes nothing
pub append_nothing : (known : Option (List ℕ)) → append_known known [] ≡ known
append_nothing None = refl
append_nothing (Some xs) = ap Some (append-nil xs)

-- to print twice is to print both
pub append_more : (known : Option (List ℕ)) (xs ys : List ℕ) → append_known (append_known known xs) ys ≡ append_known known (xs ++ ys)
append_more None xs ys = refl
append_more (Some zs) xs ys = ap Some (append_assoc zs xs ys)

-- after the first bytes the next n, from what stood before and after a piece, as a range of the bytes gives it
pub printed_next : (start now next : Option (List ℕ)) (bytes : List ℕ) (done n : ℕ) → now ≡ append_known start (take done bytes) → next ≡ append_known now (take n (take (length bytes - done) (drop done bytes))) → next ≡ append_known start (take (done + n) bytes)
printed_next start now next bytes done n before grows =
    grows ∙ ap (λ piece. append_known now (take n piece)) (take_rest bytes done)
    ∙ ap (λ k. append_known k (take n (drop done bytes))) before
    ∙ append_more start (take done bytes) (take n (drop done bytes)) ∙ ap (append_known start) (sym (take-add done n bytes))

-- the first n bytes are a front
pub printed_part : (old new : Option (List ℕ)) (bytes : List ℕ) (n : ℕ) → new ≡ append_known old (take n bytes) → PrintedInPart old new bytes
printed_part old new bytes n grows = record { written = take n bytes; left = drop n bytes; parts = sym (take-append-drop n bytes); grows = grows }

-- a front of the first text is a front of both
pub part_of_first : (old new : Option (List ℕ)) (xs ys : List ℕ) → PrintedInPart old new xs → PrintedInPart old new (xs ++ ys)
part_of_first old new xs ys part = record {
  written = part.written;
  left = part.left ++ ys;
  parts = ap (λ (l : List ℕ). l ++ ys) part.parts ∙ append_assoc part.written part.left ys;
  grows = part.grows;
}

-- the first text and a front of the second are a front of both
pub part_of_second : (old mid new : Option (List ℕ)) (xs ys : List ℕ) → mid ≡ append_known old xs → PrintedInPart mid new ys → PrintedInPart old new (xs ++ ys)
part_of_second old mid new xs ys first part = record {
  written = xs ++ part.written;
  left = part.left;
  parts = ap (λ (l : List ℕ). xs ++ l) part.parts ∙ sym (append_assoc xs part.written part.left);
  grows = part.grows ∙ ap (λ (k : Option (List ℕ)). append_known k part.written) first ∙ append_more old xs part.written;
}
