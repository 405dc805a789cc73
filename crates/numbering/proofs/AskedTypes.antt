-- The types of the variables that are mentioned, mention by mention, and where the mentions of actions begin.
use Rattle.std.proofs.Common.{◌≡◌, ℕ, ◌+◌, ◌-◌, ◌<◌, ◌≤◌, List, [], ◌∷◌, ◌++◌, take, drop, length, get_or, refl, sym, ap, ◌∙◌, append_assoc, length-append, length-drop, take_all, arith}
use Rattle.std.specs.List.{flat_map}
use Rattle.std.proofs.lemmas.List.{drop-map, length-map}
use Rattle.std.proofs.lemmas.List.Folds.{flat_map-map}
use Rattle.std.proofs.Math.Seq.{drop-append_seam}
use Rattle.lists.proofs.LoopSteps.{flat_map_turn}
use Rattle.pddl_syntax.specs.declared.types.Domain.{Domain}
use Rattle.pddl_syntax.specs.declared.types.Head.{Head}
use Rattle.pddl_syntax.specs.declared.types.Named.{Named}
use Rattle.pddl_syntax.specs.declared.types.Problem.{Problem}
use Rattle.fault_positions.specs.declared.mentions.Mention as code
use Rattle.fault_positions.specs.Mentions.{Mention, in_head, in_action, in_axiom, in_domain, in_problem}
use Rattle.fault_positions.specs.Seen.{seen, all_seen}
use Rattle.numbering.specs.Asked.{types_at, types_of, variable_types}

-- one round of a loop over mentions
pub asked_turn : (mentions : List code.Mention) (i : ℕ) (mention : code.Mention) → i < length mentions → mention ≡ get_or mentions i mention →
    (start before after : List (List Named)) → before ≡ start ++ types_of (all_seen (take i mentions)) → after ≡ before ++ types_at (seen mention) →
    after ≡ start ++ types_of (all_seen (take (i + 1) mentions))
asked_turn mentions i mention within is start before after held made =
    flat_map_turn mentions i mention within is (λ (m : code.Mention). types_at (seen m)) start before after (held ∙ ap (λ more. start ++ more) (flat_map-map types_at seen (take i mentions))) made
    ∙ ap (λ more. start ++ more) (sym (flat_map-map types_at seen (take (i + 1) mentions)))

one_each : (heads : List Head) → length (flat_map in_head heads) ≡ length heads
one_each [] = refl
one_each (head ∷ heads) = let rest = one_each heads in omega (arith, rest)

module _ (domain : Domain) (predicates functions : List Head) (all_predicates : predicates ≡ domain.predicates) (all_functions : functions ≡ domain.functions)
    (mentions items : List code.Mention) (are : mentions ≡ items) (mentioned : all_seen items ≡ in_domain domain) where
  abbrev heads : ℕ
  heads = length predicates + length functions

  abbrev of_heads : List Mention
  of_heads = flat_map in_head domain.predicates ++ flat_map in_head domain.functions

  abbrev behind : List Mention
  behind = flat_map in_action domain.actions ++ flat_map in_axiom domain.axioms

  split : all_seen mentions ≡ of_heads ++ behind
  split = ap all_seen are ∙ mentioned ∙ sym (append_assoc (flat_map in_head domain.predicates) (flat_map in_head domain.functions) behind)

  len_of_heads : heads ≡ length of_heads
  len_of_heads =
      omega (
        arith,
        ap (λ (l : List Head). length l) all_predicates,
        ap (λ (l : List Head). length l) all_functions,
        one_each domain.predicates,
        one_each domain.functions,
        length-append (flat_map in_head domain.predicates) (flat_map in_head domain.functions),
      )

  pub heads_within : heads ≤ length mentions
  heads_within = omega (arith, len_of_heads, ap (λ (l : List Mention). length l) split, length-map mentions seen, length-append of_heads behind)

  behind_heads : all_seen (drop heads mentions) ≡ behind
  behind_heads = sym (drop-map seen heads mentions) ∙ ap (drop heads) split ∙ ap (λ n. drop n (of_heads ++ behind)) len_of_heads ∙ drop-append_seam of_heads behind

  -- what is behind the heads, and what the problem mentions
  pub all_asked : (problem : Problem) (others more : List code.Mention) → others ≡ more → all_seen more ≡ in_problem problem → (start middle end : List (List Named)) → start ≡ [] →
      middle ≡ start ++ types_of (all_seen (take (length mentions - heads) (drop heads mentions))) → end ≡ middle ++ types_of (all_seen others) → end ≡ variable_types domain problem
  all_asked problem others more others_are in_others start middle end none first second =
      let whole = take_all (length mentions - heads) (drop heads mentions) (omega (arith, length-drop heads mentions)) in
      second
      ∙ ap (λ (l : List (List Named)). l ++ types_of (all_seen others))
      (first ∙ ap (λ (l : List (List Named)). l ++ types_of (all_seen (take (length mentions - heads) (drop heads mentions)))) none
      ∙ ap (λ (l : List code.Mention). types_of (all_seen l)) whole ∙ ap types_of behind_heads)
      ∙ ap (λ (l : List Mention). types_of behind ++ types_of l) (ap all_seen others_are ∙ in_others)
