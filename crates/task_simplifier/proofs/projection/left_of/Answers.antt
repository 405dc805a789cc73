use Rattle.task_simplifier.proofs.projection.left_of.Goals as goal

pub returns : goal.returns
returns c =
    record {
      kept = c.in_ok-kept.kept.items;
      count = c.in_ok-kept.ensures.count;
      are = c.in_ok-kept.ensures.are;
      shown_is = c.in_ok-shown.ensures;
      marks_are = c.in_ok-marks.ensures;
    }
