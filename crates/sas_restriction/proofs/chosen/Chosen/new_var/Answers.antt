-- A look-up in the table of places.
use Rattle.std.proofs.Common.{◌<◌, ◌≤◌, length, get_or, sym, ap, ◌∙◌, arith}
use Rattle.std.proofs.lemmas.Bool.{ltb-true, ltb-false}
use Rattle.std.proofs.lemmas.List.FromFn.{length-map-range_with_len}
use Rattle.sas_restriction.specs.Listed.{Listed}
use Rattle.sas_restriction.proofs.Numbers.{place}
use Rattle.sas_restriction.proofs.Places.{place_at, no_place}
use Rattle.sas_restriction.proofs.chosen.Chosen.new_var.Goals as goal

pub returns-in-Some : goal.returns-in-Some
returns-in-Some c =
    let slice = c.as_slice.ensures.value in
    let table = c.self.invariant.2 in
    let count = ap length table ∙ length-map-range_with_len (place c.self.inside.vars.items) 0 (length c.self.inside.values.items) in
    let low : c.args.var < length c.as_slice.result.now = ltb-true c.args.var (length c.as_slice.result.now) (sym c.in-Some.ensures.lookup.0) in
    let len = ap length slice in
    let below : c.args.var < length c.self.inside.values.items = omega (arith, count, low, len) in
    c.in-Some.ensures.lookup.1 ∙ ap (λ l. get_or l c.args.var c.in-Some.place.now) slice ∙ place_at c.self.inside.vars.items (length c.self.inside.values.items) c.self.inside.places.items c.args.var c.in-Some.place.now table below
    ∙ ap (λ (l : Listed). place l.vars c.args.var) c.self.view_is

pub returns-in-None : goal.returns-in-None
returns-in-None c =
    let slice = c.as_slice.ensures.value in
    let table = c.self.invariant.2 in
    let count = ap length table ∙ length-map-range_with_len (place c.self.inside.vars.items) 0 (length c.self.inside.values.items) in
    let high : length c.as_slice.result.now ≤ c.args.var = ltb-false c.args.var (length c.as_slice.result.now) (sym c.in-None.ensures.lookup.0) in
    let len = ap length slice in
    let past : length c.self.inside.values.items ≤ c.args.var = omega (arith, count, high, len) in
    c.len.ensures ∙ c.self.inside.vars.ok.0 ∙ sym (no_place c.self.inside.vars.items (length c.self.inside.values.items) c.args.var c.self.invariant.0 past)
    ∙ ap (λ (l : Listed). place l.vars c.args.var) c.self.view_is
