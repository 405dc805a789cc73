use Rattle.std.proofs.Common.{◌≡◌, map, drop}
use Rattle.translator.specs.Asked.{kinds_named}
use Rattle.translator.proofs.Requested.{behind}
use Rattle.translator.proofs.request.kinds_named.Given as goal

-- the kinds so far and those of the names that are left are the kinds of all names
abbrev pub invariant-loop-name : goal.invariant-loop-name
invariant-loop-name g l =
    kinds_named (map (λ pass. pass.kind) l.book.passes.items) (map (λ name. name.now) l.names) ≡ behind l.kinds.items (kinds_named (map (λ pass. pass.kind) l.book.passes.items) (drop l.name-index (map (λ name. name.now) l.names)))
