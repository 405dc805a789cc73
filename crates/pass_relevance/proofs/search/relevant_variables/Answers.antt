-- Of what is reached from the variables of the goal, the variables are those that are relevant.
use Rattle.std.proofs.Common.{◌≡◌, ◌+◌, ltb, map, filter, length, sym, ap, ◌∙◌, subst}
use Rattle.sas_task.specs.declared.parts.Pair.{Pair}
use Rattle.sas_restriction.specs.Relevant.{AreRelevant}
use Rattle.graph_search.specs.Reached.{AreReached}
use Rattle.pass_relevance.specs.Influences.{influences}
use Rattle.pass_relevance.proofs.Reaching.{are_relevant}
use Rattle.pass_relevance.proofs.search.relevant_variables.Goals as goal

pub returns : goal.returns
returns c =
    let T = c.args.task.now in
    let found = c.in_ok-found.found.items in
    let nodes : c.in_ok-nodes.nodes ≡ length T.variables + length T.operators = c.in_ok-nodes.ensures ∙ ap (λ n. n + c.operators.result) c.variables-count.ensures ∙ ap (λ n. length T.variables + n) c.operators.ensures in
    let starts : c.as_slice-starts.result.now ≡ map (λ (p : Pair). p.var) T.goal = c.as_slice-starts.ensures.value ∙ c.in_ok-wanted.ensures ∙ ap (map (λ (p : Pair). p.var)) c.goal.ensures in
    let arcs : c.as_slice-arcs.result.now ≡ influences T = c.as_slice-arcs.ensures.value ∙ c.in_ok-influences.ensures in
    let are = subst (λ a. AreReached (length T.variables + length T.operators) (map (λ (p : Pair). p.var) T.goal) a found) arcs
    (subst (λ s. AreReached (length T.variables + length T.operators) s c.as_slice-arcs.result.now found) starts (subst (λ n. AreReached n c.as_slice-starts.result.now c.as_slice-arcs.result.now found) nodes c.in_ok-found.ensures)) in
    let vars : c.in_ok-vars.vars.items ≡ filter (λ v. ltb v (length T.variables)) found =
    c.in_ok-vars.ensures ∙ ap (filter (λ v. ltb v c.variables-count.result)) c.as_slice-numbers.ensures.value ∙ ap (λ n. filter (λ v. ltb v n) found) c.variables-count.ensures in
    subst (AreRelevant T) (sym vars) (are_relevant T c.requires found are)
