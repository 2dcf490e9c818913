-- What is seen of a capture's answers by the capture: with the room for more.
use Rattle.std.specs.Prelude.{ℕ, List, unwrap_or}
use Rattle.std.specs.Map.{lookup}
use Rattle.prov_base.specs.declared.place.Pos.{Pos}
use Rattle.prov_base.specs.contracts.place.PosPartialEq.TheImpl.{ghosts as places}
use Rattle.capture.specs.declared.answer.Asked.{Asked}

-- the answers in the order in which they were kept, for how many more there is room, and at how many new places
pub record AnswersView : Type 0 where
  pub kept : List Asked
  pub spare : ℕ
  pub spare_places : ℕ

-- the number that is noted at a place, or 0
abbrev pub noted_last : List (Pos × ℕ) → Pos → ℕ
noted_last entries at = unwrap_or (lookup (places.eq at) entries) 0
