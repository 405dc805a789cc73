use Rattle.std.proofs.Common.{◌≡◌, not, sym, ap, ◌∙◌, subst}
use Rattle.std.specs.Prelude.{IfOk}
use Rattle.std.specs.List.{list_any}
use Rattle.std.proofs.lemmas.Result.{on_ok_weaker}
use Rattle.names.specs.Names.{is_same}
use Rattle.names.proofs.Tables.{list_any-now, names_after, among_after}
use Rattle.names.proofs.table.Names.add.Goals as goal

pub returns-clause-is_new : goal.returns-clause-is_new
returns-clause-is_new c =
    let test = is_same c.args.name.now in
    let same : list_any test c.args.self.now ≡ list_any (λ key. test key.now) c.self.inside.table.keys =
    ap (list_any test) (sym c.self.view_is) ∙ list_any-now test c.self.inside.table.keys in
    subst (λ b. IfOk c.insert.result (λ is_new. is_new ≡ not b)) (sym same) c.insert.ensures.added

pub returns-clause-names : goal.returns-clause-names
returns-clause-names c = on_ok_weaker c.insert.result (names_after c.self.inside.table.keys c.args.name c.args.self.now c.self.view_is c.insert.new.self.keys) c.insert.ensures.keys

pub returns-clause-added : goal.returns-clause-added
returns-clause-added c = on_ok_weaker c.insert.result (among_after c.self.inside.table.keys c.args.name c.args.self.now c.self.view_is c.insert.new.self.keys) c.insert.ensures.keys
