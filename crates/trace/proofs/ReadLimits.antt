-- A record is read by the limits 6 and 7.
use Rattle.std.specs.Prelude.{Ok, Err}
use mathlib.Core.Path.{◌≡◌, refl, ◌∙◌, sym}
use mathlib.Core.Bool.{Bool, true, false, cond}
use mathlib.Core.List.{List}
use Prim.Native.Nat.{ℕ}
use native.Mathlib.Omega.{arith}
use Rattle.event.specs.declared.Record.{Record}
use Rattle.event.specs.declared.Refusal.{Refusal}
use Rattle.event.specs.declared.Refusal.TheVariants.{UnknownKind, FieldSet}
use Rattle.event.specs.Answers.{Check, Parsed}
use Rattle.records.specs.Record.{bad_kind, field_set, record_of, parsed}
use Rattle.history.specs.Refused.{first_broken}
use Rattle.trace.specs.Checked.{read_limits}

-- a record read by itself, by what the check of 6 and 7 says
abbrev pub read_by : Check → Record → Parsed
read_by (Ok _) r = Ok r
read_by (Err x) r = Err x

pub read_by_limits : (s : List ℕ) → parsed s ≡ read_by (first_broken (read_limits s)) (record_of s)
read_by_limits s = go (bad_kind s) (field_set s)
  where
    go : (a b : Bool) → cond a (Err UnknownKind) (cond b (Err FieldSet) (Ok (record_of s))) ≡
        read_by (cond a (Err UnknownKind) (cond b (Err FieldSet) (Ok tt))) (record_of s)
    go true b = refl
    go false true = refl
    go false false = refl

-- so the limits pass for a record that is read, which is the one in the bytes
pub record AsRead (s : List ℕ) (r : Record) : Type 0 where
  pub passed : first_broken (read_limits s) ≡ Ok tt
  pub same : r ≡ record_of s

pub as_read : (s : List ℕ) {r : Record} → parsed s ≡ Ok r → AsRead s r
as_read s {r} e = go (first_broken (read_limits s)) refl (sym (read_by_limits s) ∙ e)
  where
    go : (c : Check) → first_broken (read_limits s) ≡ c → read_by c (record_of s) ≡ Ok r → AsRead s r
    go (Ok _) p k = record { passed = p; same = cc }
    go (Err x) p k = let z : ◌≡◌ {A = ℕ} 0 1 = cc in absurd (omega arith)

-- and refuse by their number one that is not
pub as_unread : (s : List ℕ) {x : Refusal} → parsed s ≡ Err x → first_broken (read_limits s) ≡ Err x
as_unread s {x} e = go (first_broken (read_limits s)) (sym (read_by_limits s) ∙ e)
  where
    go : (c : Check) → read_by c (record_of s) ≡ Err x → c ≡ Err x
    go (Ok _) k = let z : ◌≡◌ {A = ℕ} 0 1 = cc in absurd (omega arith)
    go (Err y) k = cc
