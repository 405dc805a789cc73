-- A domain that is read is well spelled.
use Rattle.std.proofs.Common.{◌≡◌, false, List, [], ◌∷◌, ◌++◌, refl, sym, subst}
use Rattle.std.specs.Prelude.{All, Option, Some, None, IfOk, codes}
use Rattle.std.specs.List.{fold}
use Rattle.std.proofs.lemmas.List.Elements.{All-nil, All-cons, All-head, All-tail, All-append}
use Rattle.pddl_lexer.specs.declared.position.At.{At}
use Rattle.pddl_lexer.specs.Members.{Members, NoMore, WordThen, ListThen, position, word, inside, rest}
use Rattle.pddl_lexer.specs.declared.fault.ShapePlace.TheVariants as places
use Rattle.pddl_syntax.specs.declared.expected.Expected.TheVariants as expected
use Rattle.pddl_syntax.specs.declared.types.Action.{Action}
use Rattle.pddl_syntax.specs.declared.types.Domain.{Domain}
use Rattle.pddl_syntax.specs.declared.types.Head.{Head}
use Rattle.pddl_syntax.specs.declared.types.Typed.{Typed}
use Rattle.pddl_syntax.specs.Conditions.{condition}
use Rattle.pddl_syntax.specs.Effects.{effect}
use Rattle.pddl_syntax.specs.Outcome.{Outcome, Reads, made, every, first, Gives}
use Rattle.pddl_syntax.specs.Shapes.{unsupported, check_all}
use Rattle.pddl_syntax.specs.Spelled.{IsSpelled, IsSpelledType, HasSmallCosts, IsWellSpelled}
use Rattle.pddl_syntax.specs.Values.{names, head, variables}
use Rattle.pddl_syntax.proofs.Given.{own_reads, made_reads, both_reads, refused_never, pairs_have, nothing_has, every_has, fold_has, first_passes, unless_empty, given_has}
use Rattle.pddl_syntax.proofs.Numbers.{HasSmall, nothing_small, effect_small}
use Rattle.pddl_syntax.proofs.Sections.{section_has, sections_have}
use Rattle.pddl_syntax.proofs.Spelling.{named_spelled, name_passes, names_spelled, without_types, head_spelled}
use Rattle.pddl_parser.specs.declared.action.ActionKey.TheVariants as action_keys
use Rattle.pddl_parser.specs.declared.action.ActionPart.TheVariants.{Parameters, Precondition, Effect}
use Rattle.pddl_parser.specs.declared.domain.DomainKey.TheVariants as keys
use Rattle.pddl_parser.specs.declared.domain.DomainSection.TheVariants as domain
use Rattle.pddl_parser.specs.DomainReading.{ActionKey, ActionPart, check_functions, heads, action_key, check_action, bare_action, part, with_part, action_parts, action, derived, DomainKey, DomainSection, check_file, title, sections, domain_key, domain_section_of, domain_section, with_domain_section, no_domain, domain_reading}

-- ---- actions

parts_keep_name : (action : Action) (parts : List ActionPart) → (fold with_part action parts).name ≡ action.name
parts_keep_name action [] = refl
parts_keep_name action (Parameters variables ∷ parts) = parts_keep_name (record action { parameters = variables }) parts
parts_keep_name action (Precondition condition ∷ parts) = parts_keep_name (record action { precondition = condition }) parts
parts_keep_name action (Effect effect ∷ parts) = parts_keep_name (record action { effect = effect }) parts

-- no cost in the part is too large
abbrev HasSmallPart : ActionPart → Type 0
HasSmallPart (Parameters variables) = Unit {0}
HasSmallPart (Precondition condition) = Unit {0}
HasSmallPart (Effect effect) = HasSmall effect

part_small : (key : Option ActionKey) (m : Members) (p : ActionPart) → part key m ≡ Reads p → HasSmallPart p
part_small None m p e = absurd (refused_never (unsupported (position m)) p e)
part_small (Some action_keys.Parameters) m p e = let read = made_reads Parameters (variables m) p e in subst HasSmallPart read.1.1 tt
part_small (Some action_keys.Precondition) m p e = let read = made_reads Precondition (condition m) p e in subst HasSmallPart read.1.1 tt
part_small (Some action_keys.Effect) m p e = let read = made_reads Effect (effect m) p e in subst HasSmallPart read.1.1 (effect_small m read.0 read.1.0)

parts_small : (m : Members) (ps : List ActionPart) → action_parts m ≡ Reads ps → All HasSmallPart ps
unfolding action_parts
parts_small NoMore ps e = nothing_has HasSmallPart ps e
parts_small (WordThen at word more) ps e = pairs_have HasSmallPart (part (action_key word) more) (action_parts more) (part_small (action_key word) more) (parts_small more) ps e
parts_small (ListThen at inside more) ps e = parts_small more ps e

parts_keep_small : (action : Action) (ps : List ActionPart) → HasSmallCosts action → All HasSmallPart ps → HasSmallCosts (fold with_part action ps)
parts_keep_small action [] small all = small
parts_keep_small action (Parameters variables ∷ ps) small all = parts_keep_small (record action { parameters = variables }) ps small (All-tail HasSmallPart (Parameters variables) ps all)
parts_keep_small action (Precondition condition ∷ ps) small all = parts_keep_small (record action { precondition = condition }) ps small (All-tail HasSmallPart (Precondition condition) ps all)
parts_keep_small action (Effect effect ∷ ps) small all = parts_keep_small (record action { effect = effect }) ps (All-head HasSmallPart (Effect effect) ps all) (All-tail HasSmallPart (Effect effect) ps all)

abbrev IsSpelledAction : Action → Type 0
IsSpelledAction action = IsSpelled action.name × HasSmallCosts action

action_spelled : (at : At) (m : Members) (a : Action) → action at m ≡ Reads a → IsSpelledAction a
unfolding action
action_spelled at m a e =
    let read = own_reads (check_action at m) (made (fold with_part (bare_action at m)) (action_parts (rest m))) a e in
    let checked = unless_empty m _ _ read.0 in
    let named_well = name_passes places.Action m (first_passes _ _ checked) in
    let parts = made_reads (fold with_part (bare_action at m)) (action_parts (rest m)) a read.1 in
    let name = subst IsSpelled (sym (parts_keep_name (bare_action at m) parts.0)) (named_spelled m named_well) in
    let costs = parts_keep_small (bare_action at m) parts.0 (nothing_small at) (parts_small (rest m) parts.0 parts.1.0) in
    subst IsSpelledAction parts.1.1 (name, costs)

-- ---- sections

pub heads_spelled : (m : Members) (hs : List Head) → heads m ≡ Reads hs → All (λ h. IsSpelled h.name) hs
unfolding heads
heads_spelled NoMore hs e = nothing_has (λ (h : Head). IsSpelled h.name) hs e
heads_spelled (WordThen at word more) hs e = heads_spelled more hs e
heads_spelled (ListThen at inside more) hs e =
    pairs_have (λ (h : Head). IsSpelled h.name) (head (ListThen at inside more)) (heads more) (head_spelled (ListThen at inside more)) (heads_spelled more) hs e

abbrev IsSpelledSection : DomainSection → Type 0
IsSpelledSection domain.Requirements = Unit {0}
IsSpelledSection (domain.Types types) = All IsSpelledType types
IsSpelledSection (domain.Constants constants) = All (λ constant. IsSpelled constant.name) constants
IsSpelledSection (domain.Predicates predicates) = All (λ head. IsSpelled head.name) predicates
IsSpelledSection (domain.Functions functions) = All (λ head. IsSpelled head.name) functions
IsSpelledSection (domain.Action action) = IsSpelledAction action
IsSpelledSection (domain.Derived derived) = Unit {0}

section_of_spelled : (key : DomainKey) (at : At) (m : Members) (s : DomainSection) → domain_section_of key at m ≡ Reads s → IsSpelledSection s
unfolding domain_section_of
section_of_spelled keys.Requirements at m s e =
    let read = own_reads (check_all expected.Requirement m) (Reads domain.Requirements) s e in
    let same : domain.Requirements ≡ s = cc (read.1) in
    subst IsSpelledSection same tt
section_of_spelled keys.Types at m s e =
    let read = made_reads domain.Types (names at m) s e in
    subst IsSpelledSection read.1.1 (names_spelled at m read.0 read.1.0)
section_of_spelled keys.Constants at m s e =
    let read = made_reads domain.Constants (names at m) s e in
    subst IsSpelledSection read.1.1 (without_types read.0 (names_spelled at m read.0 read.1.0))
section_of_spelled keys.Predicates at m s e =
    let read = made_reads domain.Predicates _ s e in
    let inside = own_reads (check_all (expected.List places.Head) m) (every head m) read.0 read.1.0 in
    subst IsSpelledSection read.1.1 (every_has (λ (h : Head). IsSpelled h.name) head head_spelled m read.0 inside.1)
section_of_spelled keys.Functions at m s e =
    let read = made_reads domain.Functions _ s e in
    let inside = own_reads (check_functions at false m) (heads m) read.0 read.1.0 in
    subst IsSpelledSection read.1.1 (heads_spelled m read.0 inside.1)
section_of_spelled keys.Action at m s e =
    let read = made_reads domain.Action (action at m) s e in
    subst IsSpelledSection read.1.1 (action_spelled at m read.0 read.1.0)
section_of_spelled keys.Derived at m s e = let read = made_reads domain.Derived (derived at m) s e in subst IsSpelledSection read.1.1 tt

-- ---- domains

one_more : {A : Type 0} (P : A → Type 0) (xs : List A) (x : A) → All P xs → P x → All P (xs ++ x ∷ [])
one_more P xs x all here = All-append P xs (x ∷ []) all (All-cons P x [] here (All-nil P))

with_section_spelled : (so_far : Domain) (s : DomainSection) → IsWellSpelled so_far → IsSpelledSection s → IsWellSpelled (with_domain_section so_far s)
with_section_spelled so_far domain.Requirements well here = well
with_section_spelled so_far (domain.Types types) well here = record { types = here; constants = well.constants; predicates = well.predicates; functions = well.functions; actions = well.actions; costs = well.costs }
with_section_spelled so_far (domain.Constants constants) well here = record { types = well.types; constants = here; predicates = well.predicates; functions = well.functions; actions = well.actions; costs = well.costs }
with_section_spelled so_far (domain.Predicates predicates) well here = record { types = well.types; constants = well.constants; predicates = here; functions = well.functions; actions = well.actions; costs = well.costs }
with_section_spelled so_far (domain.Functions functions) well here = record { types = well.types; constants = well.constants; predicates = well.predicates; functions = here; actions = well.actions; costs = well.costs }
with_section_spelled so_far (domain.Action action) well here =
    record {
      types = well.types;
      constants = well.constants;
      predicates = well.predicates;
      functions = well.functions;
      actions = one_more (λ a. IsSpelled a.name) so_far.actions action well.actions here.0;
      costs = one_more HasSmallCosts so_far.actions action well.costs here.1;
    }
with_section_spelled so_far (domain.Derived derived) well here = record { types = well.types; constants = well.constants; predicates = well.predicates; functions = well.functions; actions = well.actions; costs = well.costs }

no_domain_spelled : IsWellSpelled no_domain
no_domain_spelled = record {
  types = All-nil IsSpelledType;
  constants = All-nil (λ (c : Typed). IsSpelled c.name);
  predicates = All-nil (λ (h : Head). IsSpelled h.name);
  functions = All-nil (λ (h : Head). IsSpelled h.name);
  actions = All-nil (λ (a : Action). IsSpelled a.name);
  costs = All-nil HasSmallCosts;
}

-- a domain that is read is well spelled
pub domain_spelled : (m : Members) (domain : Domain) → domain_reading m ≡ Reads domain → IsWellSpelled domain
unfolding domain_reading domain_section
domain_spelled m domain e =
    let read = own_reads (check_file (position m) (inside m)) _ domain e in
    let parts = both_reads _ (title (codes "domain") (rest (inside m))) (sections domain_section [] (rest (rest (inside m)))) domain read.1 in
    let each = section_has domain_key domain_section_of IsSpelledSection section_of_spelled in
    let spelled = sections_have IsSpelledSection domain_section each [] (rest (rest (inside m))) parts.1.0 parts.1.1.1.0 in
    subst IsWellSpelled parts.1.1.1.1 (fold_has IsWellSpelled IsSpelledSection with_domain_section with_section_spelled no_domain parts.1.0 no_domain_spelled spelled)

-- the same of a function that gives the reading
pub given_domain : (given : Outcome Domain) (m : Members) → Gives given (first (domain_reading m)) → IfOk given IsWellSpelled
given_domain given m gives = given_has IsWellSpelled (domain_reading m) (domain_spelled m) given gives
