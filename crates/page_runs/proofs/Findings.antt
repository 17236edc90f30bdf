-- Findings put, one more at a time.
use Rattle.std.proofs.Common.{◌≡◌, ℕ, ◌+◌, ◌*◌, ◌%◌, List, ap, ◌∙◌, mul-suc, add-one, arith}
use Rattle.codec.specs.Placed.{placed}
use Rattle.page_runs.specs.Setting.{step_in, finding_plus, findings_put}

-- what is added to the next finding
pub next_more : (step i : ℕ) {x : ℕ} → x ≡ step * i % 65536 → (x + step) % 65536 ≡ step * (i + 1) % 65536
next_more step i e = rw add-one (omega (arith, mul-suc step i))

-- one finding more
pub put_more : (space : List ℕ) (at : ℕ) (s : List ℕ) (i : ℕ) {next one : List ℕ} {more : ℕ} → next ≡ findings_put space at s i →
    more ≡ step_in s * i % 65536 → one ≡ finding_plus s more → placed (at + 12 * i) one next ≡ findings_put space at s (i + 1)
unfolding findings_put
put_more space at s i p m o =
    let same : _ ≡ finding_plus s (step_in s * i % 65536) = o ∙ ap (finding_plus s) m in
    rw (add-one i, p, same)
