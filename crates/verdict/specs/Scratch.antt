-- The lists that are lent to the check as scratch. Assumes nothing.
use Rattle.std.specs.Prelude.{◌≡◌, ℕ, length}
use Rattle.verdict.specs.Judges as judges
use Rattle.verdict.specs.declared.Scratch.{Scratch}

-- what they hold, but for the legs, which are the check's own
abbrev pub scratch_in : Scratch → judges.Scratch
scratch_in s = judges.make_scratch s.left.now s.margins.now s.ranks.now

-- room in each for n holdings
abbrev pub HasRoom : ℕ → Scratch → Type 0
HasRoom n s = judges.ScratchRoom n s.legs.now s.left.now s.margins.now s.ranks.now

-- each refers to what it referred to, and is as long as it was
pub record SameLists (before after : Scratch) : Type 0 where
  pub legs : after.legs.ghost_name ≡ before.legs.ghost_name
  pub left : after.left.ghost_name ≡ before.left.ghost_name
  pub margins : after.margins.ghost_name ≡ before.margins.ghost_name
  pub ranks : after.ranks.ghost_name ≡ before.ranks.ghost_name
  pub legs_long : length after.legs.now ≡ length before.legs.now
  pub left_long : length after.left.now ≡ length before.left.now
  pub margins_long : length after.margins.now ≡ length before.margins.now
  pub ranks_long : length after.ranks.now ≡ length before.ranks.now
