use Rattle.made_texts.proofs.Balls.{ball_more}
use Rattle.made_texts.proofs.texts.push_balls.Goals as goal

pub loop-number-preserved : goal.loop-number-preserved
loop-number-preserved c = ball_more c.args.before.now c.args.after.now _ _ _ c.loop-number.number c.loop-number.invariant c.in_ok-push_ball.ensures
