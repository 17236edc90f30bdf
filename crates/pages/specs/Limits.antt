-- What refuses a findings area that is to be laid out in a page area: the limits, in order.
use Rattle.std.specs.Prelude.{Bool, not, ◌||◌, List, [], ◌∷◌, ℕ, ◌+◌, ◌*◌, ◌%◌, eqb, ltb, length, get_or}
use Rattle.event.specs.declared.Refusal.TheVariants.{LengthDiffers, UnknownKind, FieldSet, PageAreaTooShort}
use Rattle.codec.specs.Codec.{finding_size}
use Rattle.history.specs.Refused.{Limit, limit, most_events}
use Rattle.page_layout.specs.Pages.{findings_in}

-- no whole number of findings, or more than 65,535, since event numbers have 16 bits
abbrev pub bad_length : List ℕ → Bool
bad_length findings = not (eqb (length findings % finding_size) 0) || ltb most_events (findings_in findings)

-- the findings area as a whole
abbrev pub whole_limits : List ℕ → List Limit
whole_limits findings =
    limit (bad_length findings) LengthDiffers ∷  -- 5
    []

-- the finding with so many before it
abbrev pub damage_limits : ℕ → List ℕ → List Limit
damage_limits before findings =
    limit (ltb 8 (get_or findings (finding_size * before) 0)) UnknownKind ∷  -- 6 a kind over 8
    limit (not (eqb (get_or findings (finding_size * before + 1) 0) 0)) FieldSet ∷  -- 7 its zero byte set
    []

-- a page area of so many bytes, for pages of so many
abbrev pub room_limits : (room size : ℕ) → List Limit
room_limits room size =
    limit (ltb room size) PageAreaTooShort ∷  -- 16 page area too short
    []
