-- What passes make of a valid task is valid and may stand for it.
use Rattle.std.proofs.Common.{◌≡◌, List, [], ◌∷◌, refl, sym, ◌∙◌, subst}
use Rattle.std.specs.List.{Contains}
use Rattle.sas_task.specs.Task.{Task}
use Rattle.sas_task.specs.Valid.{IsValid}
use Rattle.sas_task.specs.Keeps.{Keeps}
use Rattle.sas_task.proofs.KeepsLaws.{keeps_itself, keeps_through}
use Rattle.sas_restriction.specs.KeepsCosts.{KeepsCosts}
use Rattle.sas_restriction.proofs.Reordered.{reordered_valid, reordered_keeps, reordered_costs}
use Rattle.sas_restriction.proofs.Reduced.{reduced_valid, reduced_keeps, reduced_costs, reduced_once}
use Rattle.pass_possible.proofs.Pruned.{pruned_valid, pruned_keeps, pruned_costs, pruned_once}
use Rattle.pass_book.specs.declared.kind.PassKind.{PassKind}
use Rattle.pass_book.specs.declared.kind.PassKind.TheVariants.{Order, Relevance, H2}
use Rattle.pass_book.specs.Passes.{Meets, IsChain}

pub meets_valid : (kind : PassKind) (old new : Task) → IsValid old → Meets kind old new → IsValid new
meets_valid Order old new valid meets = reordered_valid old new valid meets
meets_valid Relevance old new valid meets = reduced_valid old new valid meets
meets_valid H2 old new valid meets = pruned_valid old new valid meets

pub meets_keeps : (kind : PassKind) (old new : Task) → IsValid old → Meets kind old new → Keeps old new
meets_keeps Order old new valid meets = reordered_keeps old new valid meets
meets_keeps Relevance old new valid meets = reduced_keeps old new valid meets
meets_keeps H2 old new valid meets = pruned_keeps old new valid meets

pub chain_valid : (kinds : List PassKind) (old new : Task) → IsValid old → IsChain kinds old new → IsValid new
chain_valid [] old new valid chain = subst IsValid (sym chain) valid
chain_valid (kind ∷ kinds) old new valid chain = chain_valid kinds chain.0 new (meets_valid kind old chain.0 valid chain.1) chain.2

pub chain_keeps : (kinds : List PassKind) (old new : Task) → IsValid old → IsChain kinds old new → Keeps old new
chain_keeps [] old new valid chain = subst (Keeps old) (sym chain) (keeps_itself old)
chain_keeps (kind ∷ kinds) old new valid chain =
    keeps_through old chain.0 new (meets_keeps kind old chain.0 valid chain.1) (chain_keeps kinds chain.0 new (meets_valid kind old chain.0 valid chain.1) chain.2)

pub meets_costs : (kind : PassKind) (old new : Task) → Meets kind old new → KeepsCosts old new
meets_costs Order old new meets = reordered_costs old new meets
meets_costs Relevance old new meets = reduced_costs old new meets
meets_costs H2 old new meets = pruned_costs old new meets

pub chain_costs : (kinds : List PassKind) (old new : Task) → IsChain kinds old new → KeepsCosts old new
chain_costs [] old new chain o' in' = (o', subst (λ (t : Task). Contains t.operators o') chain in', refl, refl)
chain_costs (kind ∷ kinds) old new chain o' in' =
    let later = chain_costs kinds chain.0 new chain.2 o' in' in
    let first = meets_costs kind old chain.0 chain.1 later.0 later.1 in
    (first.0, first.1, first.2 ∙ later.2, first.3 ∙ later.3)

-- what passes of these kinds make of a task is one task
pub meets_once : (kind : PassKind) (old new other : Task) → Meets kind old new → Meets kind old other → new ≡ other
meets_once Order old new other meets meets' = meets ∙ sym meets'
meets_once Relevance old new other meets meets' = reduced_once old new other meets meets'
meets_once H2 old new other meets meets' = pruned_once old new other meets meets'

pub chain_once : (kinds : List PassKind) (old new other : Task) → IsChain kinds old new → IsChain kinds old other → new ≡ other
chain_once [] old new other chain chain' = chain ∙ sym chain'
chain_once (kind ∷ kinds) old new other chain chain' =
    chain_once kinds chain.0 new other chain.2 (subst (λ (t : Task). IsChain kinds t other) (sym (meets_once kind old chain.0 chain'.0 chain.1 chain'.1)) chain'.2)
