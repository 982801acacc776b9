-- `lanes::marks::marked` meets its contract: the test is `bit` by definition. Assumes nothing.
use mathlib.Core.Path.{refl}
use Rattle.words.specs.Word.{bit}
use Rattle.lanes.specs.Marks.{marked}
use Rattle.lanes.proofs.marks.marked.Goals as goal

pub returns : goal.returns
unfolding marked bit
returns c =
    refl
