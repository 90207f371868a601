-- `Asked::hours_of_pair` meets its contract: the covering link gives the hours. Assumes nothing.
use Rattle.std.proofs.Common.{refl}
use Rattle.question.proofs.Reaches.{common_link}
use Rattle.question.proofs.walk.Asked.hours_of_pair.Goals as goal

pub returns-in-Some : goal.returns-in-Some
returns-in-Some c = common_link c.args.self.now.walkable c.in-Some.ensures.covers refl refl
