use Rattle.std.proofs.Common.{◌≡◌, rules, List, String, Global, map, string_bytes, subst, sym, None, option_map}
use Rattle.command_line.specs.Accepted.{accepted, asked_by}
use Rattle.command_line.proofs.Reading.{refused, taken}
use Rattle.command_line.proofs.accepted.read_words.Goals as goal

pub returns-in-Ok : goal.returns-in-Ok
returns-in-Ok c = subst (λ (words : List (String Global)). option_map asked_by c.asked.result ≡ accepted (map string_bytes words)) c.as_slice.ensures.value
    (taken _ _ c.in-Ok.matches c.asked.result c.in_ok-command.ensures c.in-Ok.ensures.kinds c.in-Ok.ensures.matches c.asked.ensures)

pub returns : goal.returns
returns c = subst (λ (words : List (String Global)). None ≡ accepted (map string_bytes words)) c.as_slice.ensures.value
    (sym (refused _ _ c.in-Err.error c.in_ok-command.ensures c.in-Err.ensures.kinds (search rules)))
