use Rattle.std.proofs.Common.{◌≡◌, ◌∙◌, ◌<◌, length, sym, ap, inl, inr, arith}
use Rattle.std.proofs.lemmas.Bool.{cases_eq}
use Rattle.tl_device.specs.memory.Entries.{name_at}
use Rattle.tl_device.proofs.EntryLemmas.{name_is, entry_of, unknown}
use Rattle.tl_device.proofs.entries.Entries.position.Goals as goal

pub returns-then-is_named-clause-found : goal.returns-then-is_named-clause-found
returns-then-is_named-clause-found c =
    let within : c.loop-i.i < length c.self.inside.items.items = omega (arith, c.len-i-end.ensures, c.loop-i-test.true) in
    rw (← c.self.view_is) (entry_of _ c.loop-i.i _ c.self.invariant within (name_is _ c.loop-i.i _ within c.index.ensures ∙ c.is_named.ensures.0 c.if-is_named.true))

pub loop-i-preserved : goal.loop-i-preserved
loop-i-preserved c k below named = elim (cases_eq k c.loop-i.i) [
  | inl is ↦
      let within : c.loop-i.i < length c.self.inside.items.items = omega (arith, c.len-i-end.ensures, c.loop-i-test.true) in
      let here : name_at c.self.inside.items.items c.loop-i.i ≡ c.args.name.now = rw c.self.view_is (ap (name_at c.args.self.now) (sym is) ∙ named) in
      let yes = c.is_named.ensures.1 (sym (name_is _ c.loop-i.i _ within c.index.ensures) ∙ here) in
      absurd (cc (yes, c.if-is_named.false))
  | inr before ↦ c.loop-i.invariant k (omega arith) named
]

pub returns-clause-none : goal.returns-clause-none
returns-clause-none c = unknown _ _ (λ k below named. c.loop-i.invariant k (let bound : length c.self.inside.items.items ≡ length c.args.self.now = ap length c.self.view_is in omega (arith, c.len-i-end.ensures, c.loop-i-test.false, bound)) named)
