-- Where spots lie on the sheet. Assumes nothing.
use Rattle.std.specs.Prelude.{ℕ, ◌+◌, ◌*◌, ◌/◌, ◌≤◌, ◌≤ℤ◌, max}
use Rattle.picture.specs.Distances.{apart}
use Rattle.space.specs.declared.spot.Spot.{Spot}
use Rattle.picture.specs.declared.frame.Frame.{Frame}
use Rattle.picture.specs.declared.frame.Place.{Place}
use Rattle.picture.specs.declared.frame.TheConstants.{MARGIN, SIDE}

-- The box holds the spot.
pub record Holds (f : Frame) (s : Spot) : Type 0 where
  pub left : f.left ≤ℤ s.x
  pub right : s.x ≤ℤ f.right
  pub bottom : f.bottom ≤ℤ s.y
  pub top : s.y ≤ℤ f.top

-- All that the first box holds the second holds too.
pub record IsWithin (f g : Frame) : Type 0 where
  pub left : g.left ≤ℤ f.left
  pub right : f.right ≤ℤ g.right
  pub bottom : g.bottom ≤ℤ f.bottom
  pub top : f.top ≤ℤ g.top

-- The longer side of the box, and at least 1: it is SIDE long on the sheet.
abbrev pub span_of : Frame → ℕ
span_of f = max (max (apart f.left f.right) (apart f.bottom f.top)) 1

-- A distance on the sheet.
abbrev pub scaled_of : Frame → ℕ → ℕ
scaled_of f d = d * SIDE / span_of f

-- The lower right corner of the sheet, with a margin on each side.
abbrev pub corner_of : Frame → Place
corner_of f = record { x = 2 * MARGIN + scaled_of f (apart f.left f.right); y = 2 * MARGIN + scaled_of f (apart f.bottom f.top) }

-- The place of a spot: x from the left side of the box, y down from its upper side.
abbrev pub place_of : Frame → Spot → Place
place_of f s = record { x = MARGIN + scaled_of f (apart f.left s.x); y = MARGIN + scaled_of f (apart s.y f.top) }

-- A place within the margins of the sheet.
pub record IsOnSheet (f : Frame) (p : Place) : Type 0 where
  pub left : MARGIN ≤ p.x
  pub right : p.x + MARGIN ≤ (corner_of f).x
  pub upper : MARGIN ≤ p.y
  pub lower : p.y + MARGIN ≤ (corner_of f).y
