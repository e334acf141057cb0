-- Boxes that grow. Assumes nothing.
use Rattle.std.specs.Prelude.{◌≢◌, List, [], All, Option, None, Some}
use Rattle.picture.specs.declared.frame.Frame.{Frame}
use Rattle.picture.specs.declared.row.DrawnRow.{DrawnRow}
use Rattle.picture.specs.Frame.{Holds, IsWithin}

-- The second box holds all that the first holds, if there is a first.
abbrev pub IsAround : Option Frame → Frame → Type 0
IsAround None g = Unit {0}
IsAround (Some f) g = IsWithin f g

-- The least box of some rows: it holds each row's spot, and lies within each box that does.
pub record IsBoxOf (f : Frame) (rows : List DrawnRow) : Type 0 where
  pub some : rows ≢ []
  pub holds : All (λ r. Holds f r.spot) rows
  pub least : (g : Frame) → All (λ r. Holds g r.spot) rows → IsWithin f g
