use Rattle.std.proofs.Common.{◌≡◌, Bool, List, length, map, sym, ap, ◌∙◌, arith}
use Rattle.std.specs.List.{list_any, position_or_len}
use Rattle.std.proofs.lemmas.Bool.{lt-ltb, le-ltb}
use Rattle.std.proofs.lemmas.List.{length-map}
use Rattle.names.specs.Names.{Name, is_same}
use Rattle.names.proofs.Tables.{Key, list_any-now, position_or_len-now, position-place, position-none}
use Rattle.names.proofs.table.Names.position.Goals as goal

-- what the names say is what the keys say
place_is : (test : Name → Bool) (keys : List Key) (names : List Name) → map (λ key. key.now) keys ≡ names → position_or_len test names ≡ position_or_len (λ key. test key.now) keys
place_is test keys names is = ap (position_or_len test) (sym is) ∙ position_or_len-now test keys

known_is : (test : Name → Bool) (keys : List Key) (names : List Name) → map (λ key. key.now) keys ≡ names → list_any test names ≡ list_any (λ key. test key.now) keys
known_is test keys names is = ap (list_any test) (sym is) ∙ list_any-now test keys

count_is : (keys : List Key) (names : List Name) → map (λ key. key.now) keys ≡ names → length names ≡ length keys
count_is keys names is = ap length (sym is) ∙ length-map keys (λ (key : Key). key.now)

pub returns-in-Some-clause-place : goal.returns-in-Some-clause-place
returns-in-Some-clause-place c =
    let test = is_same c.args.name.now in
    let keys = c.self.inside.table.keys in
    position-place (λ key. test key.now) keys c.in-Some.position (sym c.in-Some.ensures.index) ∙ sym (place_is test keys c.args.self.now c.self.view_is)

pub returns-in-Some-clause-found : goal.returns-in-Some-clause-found
returns-in-Some-clause-found c =
    let keys = c.self.inside.table.keys in
    let count = count_is keys c.args.self.now c.self.view_is in
    known_is (is_same c.args.name.now) keys c.args.self.now c.self.view_is ∙ sym c.in-Some.ensures.found
    ∙ sym (lt-ltb c.in-Some.position (length c.args.self.now) (omega (arith, count, c.in-Some.ensures.within)))

pub returns-in-None-clause-place : goal.returns-in-None-clause-place
returns-in-None-clause-place c =
    let test = is_same c.args.name.now in
    let keys = c.self.inside.table.keys in
    c.len.ensures.len ∙ sym (position-none (λ key. test key.now) keys (sym c.in-None.ensures.found)) ∙ sym (place_is test keys c.args.self.now c.self.view_is)

pub returns-in-None-clause-found : goal.returns-in-None-clause-found
returns-in-None-clause-found c =
    let keys = c.self.inside.table.keys in
    let count = count_is keys c.args.self.now c.self.view_is in
    known_is (is_same c.args.name.now) keys c.args.self.now c.self.view_is ∙ sym c.in-None.ensures.found
    ∙ sym (le-ltb c.len.result (length c.args.self.now) (omega (arith, count, c.len.ensures.len)))
