use Rattle.std.proofs.Common.{refl}
use Rattle.plan_backmap.proofs.laws.worked_lines.Goals as goal

pub returns : goal.returns
returns c = record {
  no_line = refl;
  empty_line = refl;
  no_last_feed = refl;
  last_feed = refl;
  both_ends = refl;
  form_feed = refl;
  blank = refl;
  comment = refl;
  no_comment = refl;
  step = refl;
  gaps = refl;
  more_after = refl;
  not_opened = refl;
  only_opened = refl;
  only_closed = refl;
  nothing_inside = refl;
  no_word = refl;
  list_inside = refl;
  comment_inside = refl;
  byte = refl;
  return_inside = refl;
  words_of = refl;
  question_mark = refl;
  name_of = refl;
}
