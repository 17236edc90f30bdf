-- What the limits say of an event that they do not refuse: there is room for its number, and its ranges are within the tables.
use Rattle.std.specs.Prelude.{Ok}
use Rattle.std.proofs.Common.{◌≡◌, ◌<◌, ◌≤◌, List, ◌∷◌, ap, sym, ◌∙◌}
use Rattle.event.specs.declared.Range.{Range}
use Rattle.event.specs.declared.Event.{Event}
use Rattle.ranges.specs.Ranges.{range_end, ranges_of}
use Rattle.history.specs.Refused.{refusal_by}
use Rattle.tables.specs.declared.Counts.{Counts}
use Rattle.tables.specs.View.{limits_of}
use Rattle.events.proofs.Passed.{passes, first_range}

module _ (counts : Counts) (e : Event) (passed : refusal_by (limits_of counts) e ≡ (Ok tt)) where
  pub room : counts.events < 65535
  room = (passes counts e passed).room

  pub one_range : (a : Range) (rest : List Range) → ranges_of e ≡ a ∷ rest → (counts.events < 65535) × (range_end a ≤ 4096)
  one_range a rest k = (room, first_range counts e a rest k passed)

  pub taken : {d : Event} → e ≡ d → refusal_by (limits_of counts) d ≡ Ok tt
  taken k = sym (ap (refusal_by (limits_of counts)) k) ∙ passed
