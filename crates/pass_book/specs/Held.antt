-- The kinds of passes that a book holds.
use Rattle.std.specs.Prelude.{List, map}
use Rattle.pass_book.specs.declared.book.Book.{Book}
use Rattle.pass_book.specs.declared.kind.PassKind.{PassKind}

-- the kinds of the book's passes, in their order, whatever their functions are
abbrev pub held_kinds : {X : Type 0} {F : X → Type 0} {run : _} → Book X F run → List PassKind
held_kinds book = map (λ pass. pass.kind) book.passes.items
