use Rattle.am_member.proofs.Lives.{life_steps}
use Rattle.am_member.proofs.laws.lives_are_steps.Goals as goal

pub returns : goal.returns
returns c = life_steps
