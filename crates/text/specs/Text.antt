-- Words and numbers as bytes, and text put into a slice.
use Rattle.std.specs.Prelude.{cond, List, [], ◌∷◌, ◌++◌, ℕ, zero, suc, ◌+◌, ◌/◌, ◌%◌, ltb, length, set}
use Prim.Native.Char.{code}
use Prim.Native.String.{String, [] as empty, ◌∷◌ as ◌then◌}

-- the bytes of a word
abbrev pub ascii : String → List ℕ
ascii empty = []
ascii (c then s) = code c ∷ ascii s

-- the byte of a digit, 0 to 9
abbrev pub digit : ℕ → ℕ
digit d = 48 + d

-- a number in decimal, with no zero in front; at most so many digits
unfoldable pub decimal_in : ℕ → ℕ → List ℕ
decimal_in zero n = []
decimal_in (suc more) n = cond (ltb n 10) (digit n ∷ []) (decimal_in more (n / 10) ++ digit (n % 10) ∷ [])

-- no number here has more than ten digits
abbrev pub decimal : ℕ → List ℕ
decimal n = decimal_in 10 n

-- a slice that text is put into, and the place where the next byte goes
pub record Out : Type 0 where
  pub bytes : List ℕ
  pub next : ℕ

abbrev pub out : List ℕ → ℕ → Out
out bytes next = record { bytes = bytes; next = next }

-- one byte; where the slice is full, nothing changes
abbrev pub put_byte : ℕ → Out → Out
put_byte b o = cond (ltb o.next (length o.bytes)) (out (set o.bytes o.next b) (o.next + 1)) o

-- one byte after another
unfoldable pub put : List ℕ → Out → Out
put [] o = o
put (b ∷ rest) o = put rest (put_byte b o)
