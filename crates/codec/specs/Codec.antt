-- Numbers as bytes, least significant byte first, and the bytes of a finding.
use Rattle.std.specs.Prelude.{List, [], ◌∷◌, ◌++◌, ℕ, ◌+◌, ◌*◌, ◌/◌, ◌%◌, get_or}
use Rattle.event.specs.declared.Finding.{Finding}
use Rattle.event.specs.declared.Fields.{Fields}
use Rattle.event.specs.Numbers.{fields_with, fields_of}

-- the u16 at a place of the bytes; bytes past their end count as 0
abbrev pub u16_at : List ℕ → ℕ → ℕ
u16_at s at = get_or s at 0 + 256 * get_or s (at + 1) 0

-- the u32 at a place
abbrev pub u32_at : List ℕ → ℕ → ℕ
u32_at s at = u16_at s at + 65536 * u16_at s (at + 2)

-- a u16 as two bytes
abbrev pub u16_bytes : ℕ → List ℕ
u16_bytes n = n % 256 ∷ n / 256 ∷ []

-- a u32 as four bytes
abbrev pub u32_bytes : ℕ → List ℕ
u32_bytes n = u16_bytes (n % 65536) ++ u16_bytes (n / 65536)

-- a finding has 12 bytes
abbrev pub finding_size : ℕ
finding_size = 12

-- kind u8, zero u8, lost, kept, moment, store, site, each u16
abbrev pub finding_bytes : Finding → ℕ → List ℕ
finding_bytes f site =
    (fields_of f).kind ∷ 0 ∷
    u16_bytes (fields_of f).lost ++ u16_bytes (fields_of f).kept ++ u16_bytes (fields_of f).moment ++
    u16_bytes (fields_of f).store ++ u16_bytes site

-- the kind and the fields of a finding, read back at a place
abbrev pub fields_at : List ℕ → ℕ → Fields
fields_at s at = fields_with (get_or s at 0) (u16_at s (at + 2)) (u16_at s (at + 4)) (u16_at s (at + 6)) (u16_at s (at + 8))
