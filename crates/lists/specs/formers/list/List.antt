-- How a list holds its items, so that a type may hold lists of its own values: a condition holds a list of
-- conditions. A list is told by its items in order, and by nothing else.
use mathlib.Core.Path.{◌≡◌, refl, sym, subst}
use mathlib.Core.List.{List as Items, []}
use mathlib.Core.Former.{Former, this, list, via, children}
use mir.Val.{Val}
use Prim.Native.Nat.{ℕ}
use base.Fml.{Lft}
use base.Stored.{code_map}
use denote.RattleType.{RattleType}
use denote.Known.{Says, Known, All, Says-map, Behind, view_owned, view_shared, declared_known, nothing_known}
use denote.HoleLaws.{Alike}
use denote.HolePlaces.{Recodes, Laid, laid, struct_places}
use denote.Hole.Carrier.{listed, list-listed}
use denote.Hole.Fix.{over}
use denote.Model.Placed.{view_places}
use denote.Param.Weighed.{Weighed, w_list}
use Rattle.std.specs.declared.alloc.Global.{Global}
use Rattle.std.specs.contracts.alloc.Global as global
use Rattle.std.specs.contracts.impls.GlobalAllocator.TheImpl.{ghosts}
use Rattle.std.specs.contracts.vec.Vec as buffer
use Rattle.std.specs.formers.vec.Vec as vec
use Rattle.lists.specs.declared.list.List.TheInside.{Inside}
use Rattle.lists.specs.declared.list.List.TheView.{view, invariant}
use Rattle.lists.specs.contracts.list.List as declared
use Rattle.lists.specs.contracts.list.List.TheInside as inside

-- the values in a list are those in its items, item by item
abbrev pub the_former : Former {0} → Former {0}
the_former item = list item

-- a list weighs as much as its heaviest item
abbrev pub the_weighed : {item : Former {0}} → Weighed item → Weighed (the_former item)
the_weighed weighed = w_list weighed

-- the list that holds nothing
pub the_empty : Items ⊥
the_empty = []

-- the items of a list, in order
abbrev pub the_items : (Item : Type 0) → Items Item → Items Item
the_items Item items = items

pub the_items_listed : (Item : Type 0) (items : Items Item) → listed _ (children (the_former this) Item items) ≡ the_items Item items
the_items_listed Item items = list-listed Item items

-- the one field of a list is a Vec, which holds the items
abbrev field : Former {0}
field =
    via (vec.the_former this Global) Inside (λ Item fields. fields.items) (λ Item items. record { items = items })
    (λ Item fields. refl) (λ Item items. refl)

-- Two types of items that lie, own and lend alike, where `change` takes values of the one to values of the other.
module _ (Old New : RattleType) (change : Old.Denot → New.Denot) where
  field_placed : Alike Old New change → Laid (buffer.the_row Old global.the_row ghosts) (buffer.the_row New global.the_row ghosts) (vec.mapped change)
  field_placed alike = laid _ _ _ (vec.the_places global.the_row ghosts Old New change alike)

  inside_placed : Alike Old New change → Alike (inside.the_row Old) (inside.the_row New) (field.map Old.Denot New.Denot change)
  inside_placed alike =
      struct_places (inside.the_type Old) (inside.the_type New) (vec.mapped change, tt) _ (λ fields. refl) refl (field_placed alike, tt)

  -- their lists do so too
  pub the_places : Alike Old New change → Alike (declared.the_row Old) (declared.the_row New) ((the_former this).map Old.Denot New.Denot change)
  the_places alike =
      view_places field (the_former this) view (λ X Y h fields. refl) (λ X fields. refl)
      Old.Denot New.Denot change (declared.the_row Old).coded (declared.the_row New).coded
      (invariant Old.Denot) (invariant New.Denot) (λ fields p q. refl) (λ fields p q. refl) (λ fields h. tt) (λ fields h. tt)
      (over (inside.the_row Old)) (over (inside.the_row New)) (inside_placed alike)

  -- and where the items have the same codes, so have their lists
  pub the_codes_placed : Recodes Old New change → Recodes (declared.the_row Old) (declared.the_row New) ((the_former this).map Old.Denot New.Denot change)
  the_codes_placed same items = sym (code_map Old.coded.code New.coded.code change (λ item. sym (same item)) items)

-- What is known of every value of the items' type is known of each item of a list.
module _ (Item : RattleType) (known : Known Item) where
  abbrev pub inside_known : Known (inside.the_row Item)
  inside_known =
      declared_known (inside.the_type Item) (vec.the_facts Item global.the_row ghosts known (nothing_known global.the_row), tt)

  told : (items : Items Item.Denot)
      → Behind (inside.the_row Item) inside_known (Items Item.Denot) (declared.the_row Item).coded (declared.the_view Item) (declared.the_invariant Item) items
      → All known.Fact items
  told items behind = subst (All known.Fact) behind.1.0 behind.2.0

  pub owned_told : (items : Items Item.Denot) (values : Items Val) → Says ((declared.the_row Item).own_val items values) (All known.Fact items)
  owned_told items values =
      Says-map _ (told items)
      (view_owned (inside.the_row Item) inside_known (Items Item.Denot) (declared.the_row Item).coded (declared.the_view Item) (declared.the_invariant Item) items values)

  pub lent_told : (items : Items Item.Denot) (block offset : ℕ) (lifetime : Lft)
      → Says ((declared.the_row Item).shr_at items block offset lifetime) (All known.Fact items)
  lent_told items block offset lifetime =
      Says-map _ (told items)
      (view_shared (inside.the_row Item) inside_known (Items Item.Denot) (declared.the_row Item).coded (declared.the_view Item) (declared.the_invariant Item) items block offset lifetime)

  abbrev pub the_facts : Known (declared.the_row Item)
  the_facts = record { Fact = All known.Fact; owned = owned_told; shared = lent_told }
