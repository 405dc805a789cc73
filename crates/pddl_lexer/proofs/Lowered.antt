-- Words that are lowered.
use Rattle.std.proofs.Common.{◌≡◌, ℕ, List, [], ◌∷◌, ◌++◌, map, refl, sym, ap, ◌∙◌}
use Rattle.std.proofs.lemmas.List.{map-append}
use Rattle.std.proofs.lemmas.Str.Ascii.{lowercase-lowercase}
use Rattle.pddl_lexer.specs.Text.{lowered}
use Rattle.pddl_lexer.specs.Members.{Members, NoMore, WordThen, ListThen, lowered_members}
use Rattle.pddl_lexer.specs.Tokens.{Token, Open, Close, Word, lowered_token, written}

-- lowering the words and writing in order can change places
pub written-lowered : (tree : Members) → written (lowered_members tree) ≡ map lowered_token (written tree)
written-lowered NoMore = refl
written-lowered (WordThen at bytes more) = ap (λ (ts : List Token). lowered_token (Word at bytes) ∷ ts) (written-lowered more)
written-lowered (ListThen at inner more) =
    ap (λ (ts : List Token). Open at ∷ (ts ++ (Close ∷ written (lowered_members more)))) (written-lowered inner)
    ∙ ap (λ (ts : List Token). Open at ∷ (map lowered_token (written inner) ++ (Close ∷ ts))) (written-lowered more)
    ∙ ap (λ (ts : List Token). Open at ∷ ts) (sym (map-append lowered_token (written inner) (Close ∷ written more)))

-- lowered bytes stay as they are when they are lowered again
pub lowered_twice : (bytes : List ℕ) → lowered (lowered bytes) ≡ lowered bytes
lowered_twice [] = refl
lowered_twice (b ∷ bytes) =
    let here = lowercase-lowercase b in
    let rest = lowered_twice bytes in
    cc (here, rest)

pub members_once : (tree : Members) → lowered_members (lowered_members tree) ≡ lowered_members tree
members_once NoMore = refl
members_once (WordThen at bytes more) = cc (lowered_twice bytes, members_once more)
members_once (ListThen at inner more) = cc (members_once inner, members_once more)
