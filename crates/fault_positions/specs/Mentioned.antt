-- The lists of what a domain and a problem mention, and the table of what is declared.
use Rattle.std.specs.Prelude.{◌≡◌}
use Rattle.fault_positions.specs.declared.files.Files.{Files}
use Rattle.fault_positions.specs.Mentions.{in_domain, in_problem}
use Rattle.fault_positions.specs.Seen.{all_seen}

-- the code's lists and table are those of its domain and its problem
pub record AreMentioned (files : Files) : Type 0 where
  pub in_domain : all_seen files.domain_mentions.now ≡ in_domain files.domain.now
  pub in_problem : all_seen files.problem_mentions.now ≡ in_problem files.problem.now
  pub signature : files.signature.now ≡ files.domain.now
