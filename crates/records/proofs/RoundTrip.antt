-- Reading a record accepts exactly the bytes of records: those of each record, which it gives back, and no others.
-- Assumes nothing.
use Rattle.std.specs.Prelude.{Ok, Err}
use mathlib.Core.Path.{◌≡◌, refl, sym, ap, ◌∙◌}
use mathlib.Core.Bool.{Bool, true, false, cond, not, ◌&&◌, ◌||◌}
use mathlib.Core.List.{List, [], ◌∷◌, ◌++◌}
use Prim.Native.Nat.{ℕ, zero, suc, ◌+◌, ◌≤◌, ◌<◌}
use native.Mathlib.Omega.{arith}
use lib.Dec.{eqb, leb}
use lib.ListN.{get_or}
use borrow.Author.Tests.{eqb-true, leb-true}
use Rattle.event.specs.declared.Range.{Range}
use Rattle.event.specs.declared.Event.{Event}
use Rattle.event.specs.declared.Event.TheVariants.{Store, WriteBack, Fence, Begin, Log, End, Persisted, Ordered}
use Rattle.event.specs.declared.Record.{Record}
use Rattle.event.specs.Answers.{Parsed}
use Rattle.event.specs.declared.Refusal.TheVariants.{UnknownKind, FieldSet}
use Rattle.event.specs.Numbers.{kind_of}
use Rattle.ranges.specs.Ranges.{ranges_of}
use Rattle.codec.specs.Codec.{u16_at, u16_bytes}
use Rattle.records.specs.Record.{range_at, is_kind, uses_a, uses_b, is_zero, is_clear, event_of, record_of, parsed, parsed_fields, padded, zero_range, range_bytes, fields_bytes, record_bytes, range_values, record_values}
use Rattle.event.proofs.Bools.{contradiction, and_left, and_right}
use Rattle.codec.proofs.Meaning.{u16_round_trip, u16_bytes_lem}
use Rattle.records.proofs.Meaning.{kind_of_event}

pub read_back : (e : Event) (site : ℕ) → parsed (record_bytes e site) ≡ Ok (record { event = e; site = site })
read_back (Store a) site = simp u16_round_trip
read_back (WriteBack a) site = simp u16_round_trip
read_back Fence site = simp u16_round_trip
read_back Begin site = simp u16_round_trip
read_back (Log a) site = simp u16_round_trip
read_back End site = simp u16_round_trip
read_back (Persisted a) site = simp u16_round_trip
read_back (Ordered a b) site = simp u16_round_trip

-- whatever the fields of a record say, reading its bytes is reading them
pub fields_read : (kind : ℕ) (a b : Range) (site : ℕ) → parsed (fields_bytes kind a b site) ≡ parsed_fields kind 0 a b site
fields_read kind a b site = simp u16_round_trip

-- what reading a record gave
pub record ReadFrom (s : List ℕ) (e : Event) (site : ℕ) : Type 0 where
  pub known : is_kind (get_or s 0 0) ≡ true
  pub clear : is_clear (get_or s 0 0) (get_or s 1 0) (range_at s 2) (range_at s 6) ≡ true
  pub event : e ≡ event_of (get_or s 0 0) (range_at s 2) (range_at s 6)
  pub from : site ≡ u16_at s 10

same_record : (x y : Record) → ◌≡◌ {A = Parsed} (Ok x) (Ok y) → x ≡ y
same_record x y k = cc

read_from : (s : List ℕ) (e : Event) (site : ℕ) → parsed s ≡ Ok (record { event = e; site = site }) → ReadFrom s e site
read_from s e site k = go (is_kind (get_or s 0 0)) refl (is_clear (get_or s 0 0) (get_or s 1 0) (range_at s 2) (range_at s 6)) refl k
  where
    go : (b : Bool) → is_kind (get_or s 0 0) ≡ b → (c : Bool) → is_clear (get_or s 0 0) (get_or s 1 0) (range_at s 2) (range_at s 6) ≡ c →
        cond (not b) (Err UnknownKind) (cond (not c) (Err FieldSet) (Ok (record_of s))) ≡ Ok (record { event = e; site = site }) → ReadFrom s e site
    go true p true q k = let same = same_record _ _ (sym k) in record { known = p; clear = q; event = ap (λ (r : Record). r.event) same; from = ap (λ (r : Record). r.site) same }
    go true p false q k = let z : ◌≡◌ {A = ℕ} 0 1 = cc in absurd (omega arith)
    go false p c q k = let z : ◌≡◌ {A = ℕ} 0 1 = cc in absurd (omega arith)

zero_range_lem : (r : Range) → is_zero r ≡ true → zero_range ≡ r
zero_range_lem r e =
    let a = eqb-true r.address 0 (and_left (eqb r.address 0) (eqb r.length 0) e) in
    let l = eqb-true r.length 0 (and_right (eqb r.address 0) (eqb r.length 0) e) in
    λ i. record { address = sym a i; length = sym l i }

-- the ranges of the event that a kind, an A and a B make are A and B, where those that the kind lacks are 0
pub record Ranges (kind : ℕ) (a b : Range) : Type 0 where
  pub first : get_or (ranges_of (event_of kind a b)) 0 zero_range ≡ a
  pub second : get_or (ranges_of (event_of kind a b)) 1 zero_range ≡ b

most_eight : (kind : ℕ) → is_kind kind ≡ true → kind ≤ 8
most_eight kind k = leb-true kind 8 (and_right (leb 1 kind) (leb kind 8) k)

made : (kind : ℕ) (a b : Range) → is_kind kind ≡ true → uses_a kind || is_zero a ≡ true → uses_b kind || is_zero b ≡ true → Ranges kind a b
made zero a b k p q = absurd (contradiction k refl)
made (suc zero) a b k p q = record { first = refl; second = zero_range_lem b q }
made (suc (suc zero)) a b k p q = record { first = refl; second = zero_range_lem b q }
made (suc (suc (suc zero))) a b k p q = record { first = zero_range_lem a p; second = zero_range_lem b q }
made (suc (suc (suc (suc zero)))) a b k p q = record { first = zero_range_lem a p; second = zero_range_lem b q }
made (suc (suc (suc (suc (suc zero))))) a b k p q = record { first = refl; second = zero_range_lem b q }
made (suc (suc (suc (suc (suc (suc zero)))))) a b k p q = record { first = zero_range_lem a p; second = zero_range_lem b q }
made (suc (suc (suc (suc (suc (suc (suc zero))))))) a b k p q = record { first = refl; second = zero_range_lem b q }
made (suc (suc (suc (suc (suc (suc (suc (suc zero)))))))) a b k p q = record { first = refl; second = refl }
made (suc (suc (suc (suc (suc (suc (suc (suc (suc n))))))))) a b k p q = absurd (omega (arith, most_eight (suc (suc (suc (suc (suc (suc (suc (suc (suc n))))))))) k))

-- what the bytes of a record that is read hold: its kind, a zero byte, its ranges, and its site
pub record Held (s : List ℕ) (e : Event) (site : ℕ) : Type 0 where
  pub kind : kind_of e ≡ get_or s 0 0
  pub clear : 0 ≡ get_or s 1 0
  pub first : get_or (ranges_of e) 0 zero_range ≡ range_at s 2
  pub second : get_or (ranges_of e) 1 zero_range ≡ range_at s 6
  pub from : site ≡ u16_at s 10

pub bytes_hold : (s : List ℕ) (e : Event) (site : ℕ) → parsed s ≡ Ok (record { event = e; site = site }) → Held s e site
bytes_hold s e site k =
    record {
      kind = ap kind_of x.event ∙ kind_of_event (get_or s 0 0) (range_at s 2) (range_at s 6) x.known;
      clear = sym (eqb-true (get_or s 1 0) 0 (and_left (eqb (get_or s 1 0) 0) (uses_a (get_or s 0 0) || is_zero (range_at s 2)) zeros));
      first = ap (λ (d : Event). get_or (ranges_of d) 0 zero_range) x.event ∙ m.first;
      second = ap (λ (d : Event). get_or (ranges_of d) 1 zero_range) x.event ∙ m.second;
      from = x.from;
    }
  where
    x : ReadFrom s e site
    x = read_from s e site k

    zeros : eqb (get_or s 1 0) 0 && (uses_a (get_or s 0 0) || is_zero (range_at s 2)) ≡ true
    zeros = and_left (eqb (get_or s 1 0) 0 && (uses_a (get_or s 0 0) || is_zero (range_at s 2))) (uses_b (get_or s 0 0) || is_zero (range_at s 6)) x.clear

    m : Ranges (get_or s 0 0) (range_at s 2) (range_at s 6)
    m =
        made (get_or s 0 0) (range_at s 2) (range_at s 6) x.known
        (and_right (eqb (get_or s 1 0) 0) (uses_a (get_or s 0 0) || is_zero (range_at s 2)) zeros)
        (and_right (eqb (get_or s 1 0) 0 && (uses_a (get_or s 0 0) || is_zero (range_at s 2))) (uses_b (get_or s 0 0) || is_zero (range_at s 6)) x.clear)

-- the layout of a record
abbrev bytes : ℕ → ℕ → Range → Range → ℕ → List ℕ
bytes kind clear a b site = kind ∷ clear ∷ range_bytes a ++ range_bytes b ++ u16_bytes site

-- the first 12 bytes of what is accepted are the bytes of the record that is read
pub accepted_bytes : (s : List ℕ) (e : Event) (site : ℕ) → ((i : ℕ) → get_or s i 0 < 256) → parsed s ≡ Ok (record { event = e; site = site }) →
    record_bytes e site ≡ padded 12 s
accepted_bytes s e site small k = (λ i. bytes (x.kind i) (x.clear i) (x.first i) (x.second i) (x.from i)) ∙ (λ i. laid i)
  where
    x : Held s e site
    x = bytes_hold s e site k

    pair : (i : ℕ) → u16_bytes (u16_at s i) ≡ get_or s i 0 ∷ get_or s (i + 1) 0 ∷ []
    pair i = u16_bytes_lem (get_or s i 0) (get_or s (i + 1) 0) (small i)

    laid : bytes (get_or s 0 0) (get_or s 1 0) (range_at s 2) (range_at s 6) (u16_at s 10) ≡ padded 12 s
    laid i = get_or s 0 0 ∷ get_or s 1 0 ∷ (pair 2 i ++ pair 4 i) ++ (pair 6 i ++ pair 8 i) ++ pair 10 i

-- and its values are the numbers in its bytes
pub read_values : (s : List ℕ) (r : Record) → parsed s ≡ Ok r →
    record_values r ≡ get_or s 0 0 ∷ u16_at s 2 ∷ u16_at s 4 ∷ u16_at s 6 ∷ u16_at s 8 ∷ u16_at s 10 ∷ []
read_values s r k =
    let x = bytes_hold s r.event r.site k in
    λ i. x.kind i ∷ range_values (x.first i) ++ range_values (x.second i) ++ x.from i ∷ []
