-- What a name holds behind the bytes that were taken.
use Rattle.std.proofs.Common.{◌≡◌, ℕ, ◌+◌, ◌<◌, List, ◌++◌, length, drop, length-append, refl, sym, ◌∙◌, ap, append_assoc, arith}
use Rattle.std.proofs.Math.Seq.{drop-append_seam}
use Rattle.std.specs.declared.option.Option.{Option}
use Rattle.std.specs.declared.option.Option.TheVariants.{Some, None}
use Rattle.std.specs.Option.{option_map}
use Rattle.tl_device.specs.Contents.{Contents, Holds, HoldsMoreThan, IsRest, IsTold}

-- the bytes taken so far, a piece more and the rest behind it are what the name holds
pub holds_on : (files : Option Contents) (name taken rest piece left : List ℕ) → Holds files name (taken ++ rest) → (IsTold files → rest ≡ piece ++ left) → Holds files name ((taken ++ piece) ++ left)
holds_on None name taken rest piece left holds front = tt
holds_on (Some files) name taken rest piece left holds front = holds ∙ ap (λ bs. Some (taken ++ bs)) (front refl) ∙ ap Some (sym (append_assoc taken piece left))

-- more bytes than the limit were taken
pub holds_more : (files : Option Contents) (name taken rest piece left : List ℕ) (limit : ℕ) → Holds files name (taken ++ rest) → (IsTold files → rest ≡ piece ++ left) → limit < length taken + length piece → HoldsMoreThan files name limit
holds_more files name taken rest piece left limit holds front longer = record {
  bytes = (taken ++ piece) ++ left;
  holds = holds_on files name taken rest piece left holds front;
  longer = omega (arith, length-append (taken ++ piece) left, length-append taken piece);
}

-- the rest, by the count of the bytes taken
pub is_rest : (files : Option Contents) (name taken rest piece left : List ℕ) (count : ℕ) → Holds files name (taken ++ rest) → (IsTold files → rest ≡ piece ++ left) → count ≡ length taken + length piece → IsRest files name count left
is_rest None name taken rest piece left count holds front is = tt
is_rest (Some files) name taken rest piece left count holds front is =
    ap (option_map (drop count)) (holds_on (Some files) name taken rest piece left holds front)
    ∙ ap (λ n. Some (drop n ((taken ++ piece) ++ left))) (is ∙ sym (length-append taken piece))
    ∙ ap Some (drop-append_seam (taken ++ piece) left)
