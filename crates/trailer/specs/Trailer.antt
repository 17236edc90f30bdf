-- The trailer of a trace: the last 16 bytes, which point back to the records; and the limits 1 to 5.
use Rattle.std.specs.Prelude.{Bool, true, false, not, ◌&&◌, ◌||◌, List, [], ◌∷◌, ◌++◌, ℕ, ◌+◌, ◌*◌, ◌-◌, eqb, ltb, length, take, drop, Ok, Err}
use Rattle.event.specs.declared.Refusal.TheVariants.{TraceTooShort, TraceTooLong, MarkDiffers, BadLines, LengthDiffers}
use Rattle.event.specs.Answers.{Check}
use Rattle.event.specs.Reply.{Reply, reply_by, refusal_reply}
use Rattle.window.specs.Window.{bad_lines}
use Rattle.codec.specs.Codec.{u16_at, u32_at, u16_bytes, u32_bytes}
use Rattle.records.specs.Record.{record_size}
use Rattle.history.specs.Refused.{Limit, limit, first_broken}
use Rattle.trailer.specs.declared.Trailer.{Trailer}
use Rattle.trailer.specs.Answers.{Opened}

-- a trailer has 16 bytes, and a trace at most 65,536
abbrev pub trailer_size : ℕ
trailer_size = 16

abbrev pub most_bytes : ℕ
most_bytes = 65536

-- the mark: the four bytes P T R A (50h 54h 52h 41h)
abbrev pub mark : List ℕ
mark = 80 ∷ 84 ∷ 82 ∷ 65 ∷ []

-- the two strings have the same bytes
unfoldable pub same_bytes : List ℕ → List ℕ → Bool
same_bytes [] [] = true
same_bytes [] (y ∷ ys) = false
same_bytes (x ∷ xs) [] = false
same_bytes (x ∷ xs) (y ∷ ys) = eqb x y && same_bytes xs ys

-- the bytes of the trailer
abbrev pub trailer_bytes : List ℕ → List ℕ
trailer_bytes s = drop (length s - trailer_size) s

-- the trailer's bytes start with the mark
abbrev pub has_mark : List ℕ → Bool
has_mark t = same_bytes (take 4 t) mark

-- after the mark: u32 offset of the first record, u32 record count, u16 lines, u16 zero
abbrev pub trailer_from : List ℕ → Trailer
trailer_from t = record { offset = u32_at t 4; count = u32_at t 8; lines = u16_at t 12; zero = u16_at t 14 }

unfoldable pub trailer_of : List ℕ → Trailer
trailer_of s = trailer_from (trailer_bytes s)

-- lines outside 1 to 64, or the zero field set
abbrev pub bad_window : Trailer → Bool
bad_window t = bad_lines t.lines || not (eqb t.zero 0)

-- where the records and the trailer end
abbrev pub end_of : Trailer → ℕ
end_of t = t.offset + record_size * t.count + trailer_size

-- the limits on a trace file, in order
abbrev pub file_limits : List ℕ → List Limit
file_limits s =
    limit (ltb (length s) trailer_size) TraceTooShort ∷  -- 1 under 16 bytes
    limit (ltb most_bytes (length s)) TraceTooLong ∷  -- 2 over 65,536 bytes
    limit (not (has_mark (trailer_bytes s))) MarkDiffers ∷  -- 3 mark differs
    limit (bad_window (trailer_of s)) BadLines ∷  -- 4 lines outside 1 to 64, or trailer zero field set
    limit (not (eqb (end_of (trailer_of s)) (length s))) LengthDiffers ∷  -- 5 offset + 12 × count + 16 is not the length
    []

-- the trailer, or the first of them that is broken
abbrev pub opened_for : Check → Trailer → Opened
opened_for (Ok _) t = Ok t
opened_for (Err x) t = Err x

unfoldable pub opened_of : List ℕ → Opened
opened_of s = opened_for (first_broken (file_limits s)) (trailer_of s)

-- a trailer read: offset, count, lines
abbrev pub opened_reply : Opened → Reply
opened_reply o = reply_by (λ (t : Trailer). t.offset ∷ t.count ∷ t.lines ∷ []) refusal_reply o

-- a trailer as the writer puts it. That exactly these bytes are read as these fields says what the definitions above mean
abbrev pub trailer_with : (offset count lines : ℕ) → List ℕ
trailer_with offset count lines = mark ++ u32_bytes offset ++ u32_bytes count ++ u16_bytes lines ++ u16_bytes 0
