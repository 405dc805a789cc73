-- A tree is got back from its nodes.
use Rattle.std.proofs.Common.{◌≡◌, ℕ, suc, ◌<◌, List, [], ◌∷◌, ◌++◌, Option, refl, sym, ap, ◌∙◌, append_assoc, arith}
use Rattle.std.specs.Coded.{Coded, code_by, coded×, coded_ℕ, coded_list, coded_option}
use Rattle.std.proofs.lemmas.List.{append-nil}
use Rattle.std.proofs.lemmas.Bool.{lt-ltb, le-ltb, eq-eqb, ne_eqb}
use Rattle.pddl_lexer.specs.declared.position.At.{At}
use Rattle.pddl_lexer.specs.Members.{Members, NoMore, WordThen, ListThen, count}
use Rattle.pddl_lexer.specs.Nodes.{Entry, word_entry, list_entry, entries, member, members}

-- one node, whose depth is the wanted one, or deeper, or less deep
members_here : (e : Entry) (es : List Entry) (depth : ℕ) → e.depth ≡ depth → members (e ∷ es) depth ≡ member e (members es (suc depth)) (members es depth)
members_here e es depth is = rw (eq-eqb e.depth depth is) refl

members_past : (e : Entry) (es : List Entry) (depth : ℕ) → depth < e.depth → members (e ∷ es) depth ≡ members es depth
members_past e es depth lt = rw (ne_eqb e.depth depth (λ is. omega arith), lt-ltb depth e.depth lt) refl

members_end : (e : Entry) (es : List Entry) (depth : ℕ) → e.depth < depth → members (e ∷ es) depth ≡ NoMore
members_end e es depth lt = rw (ne_eqb e.depth depth (λ is. omega arith), le-ltb depth e.depth (omega arith)) refl

-- the nodes go on with one that is less deep, or with none
abbrev pub Ends : ℕ → List Entry → Type 0
Ends depth [] = Unit {0}
Ends depth (e ∷ es) = e.depth < depth

Ends_after : (m : Members) (depth : ℕ) (es : List Entry) → Ends depth es → Ends (suc depth) (entries depth m ++ es)
Ends_after NoMore depth [] h = tt
Ends_after NoMore depth (e ∷ es) h = omega arith
Ends_after (WordThen at bytes more) depth es h = omega arith
Ends_after (ListThen at inner more) depth es h = omega arith

-- deeper members are passed over
passes : (m : Members) (deep depth : ℕ) (es : List Entry) → depth < deep → members (entries deep m ++ es) depth ≡ members es depth
passes NoMore deep depth es lt = refl
passes (WordThen at bytes more) deep depth es lt = members_past (word_entry at bytes deep) _ depth lt ∙ passes more deep depth es lt
passes (ListThen at inner more) deep depth es lt =
    members_past (list_entry at deep (count inner)) _ depth lt
    ∙ ap (λ (xs : List Entry). members xs depth) (append_assoc (entries (suc deep) inner) (entries deep more) es)
    ∙ passes inner (suc deep) depth (entries deep more ++ es) (omega arith)
    ∙ passes more deep depth es lt

-- members are read back from their nodes
pub reads : (m : Members) (depth : ℕ) (es : List Entry) → Ends depth es → members (entries depth m ++ es) depth ≡ m
reads NoMore depth [] h = refl
reads NoMore depth (e ∷ es) h = members_end e es depth h
reads (WordThen at bytes more) depth es h = members_here (word_entry at bytes depth) _ depth refl ∙ ap (λ (r : Members). WordThen at bytes r) (reads more depth es h)
reads (ListThen at inner more) depth es h =
    let regroup = append_assoc (entries (suc depth) inner) (entries depth more) es in
    let inside : members ((entries (suc depth) inner ++ entries depth more) ++ es) (suc depth) ≡ inner =
    ap (λ (xs : List Entry). members xs (suc depth)) regroup ∙ reads inner (suc depth) (entries depth more ++ es) (Ends_after more depth es h) in
    let after : members ((entries (suc depth) inner ++ entries depth more) ++ es) depth ≡ more =
    ap (λ (xs : List Entry). members xs depth) regroup ∙ passes inner (suc depth) depth (entries depth more ++ es) (omega arith) ∙ reads more depth es h in
    members_here (list_entry at depth (count inner)) _ depth refl ∙ ap (λ (i : Members). ListThen at i (members ((entries (suc depth) inner ++ entries depth more) ++ es) depth)) inside ∙ ap (λ (r : Members). ListThen at inner r) after

pub reads_all : (m : Members) → members (entries 0 m) 0 ≡ m
reads_all m = ap (λ (es : List Entry). members es 0) (sym (append-nil (entries 0 m))) ∙ reads m 0 [] tt

abbrev position_code : Coded At
position_code = code_by (ℕ × ℕ) (coded× coded_ℕ coded_ℕ) (λ at. (at.line, at.column)) (λ p. record { line = p.0; column = p.1 }) (λ _. refl)

abbrev entry_code : Coded Entry
entry_code =
    code_by (At × (Option (List ℕ) × (ℕ × ℕ))) (coded× position_code (coded× (coded_option (coded_list coded_ℕ)) (coded× coded_ℕ coded_ℕ)))
    (λ e. (e.at, (e.word, (e.depth, e.below)))) (λ p. record { at = p.0; word = p.1.0; depth = p.1.1.0; below = p.1.1.1 }) (λ _. refl)

-- a tree is stored as its nodes
abbrev pub members_code : Coded Members
members_code = code_by (List Entry) (coded_list entry_code) (entries 0) (λ es. members es 0) reads_all
