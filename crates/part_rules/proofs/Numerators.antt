-- How errors grow, over numerators with a common denominator d. `IsNear s d m x err` says that m is within err / s of x / d.
use Rattle.std.specs.Prelude.{◌≡◌, ℕ, ◌+◌, ◌*◌, ◌≤◌, ◌<◌, ℤ, pos, ◌+ℤ◌, ◌-ℤ◌, ◌*ℤ◌, ◌≤ℤ◌, unsigned_abs}
use Rattle.std.proofs.Common.{sym, ap, arith, mul-le-mul_right, le_of_lt}
use Rattle.fx_fraction.proofs.Polynomials.{differences, as_difference, same}
use Rattle.fx_fraction.proofs.WholeNumbers.{int_le_trans, int_le-add, int_le-pos, int_le-mul_pos, int_add-mul, int_mul_right_comm, unsigned_abs-triangle, unsigned_abs-sub-mul, int_le_of-eq}

pub record IsNear (s d : ℕ) (m x err : ℤ) : Type 0 where
  pub near : (pos (unsigned_abs (m *ℤ pos d -ℤ x)) *ℤ pos s) ≤ℤ (err *ℤ pos d)

-- what is no further than two distances together is within the two errors together
two_errors : (a b c s d : ℕ) (err fel : ℤ) → a ≤ b + c → (pos b *ℤ pos s) ≤ℤ (err *ℤ pos d) → (pos c *ℤ pos s) ≤ℤ (fel *ℤ pos d) → (pos a *ℤ pos s) ≤ℤ ((err +ℤ fel) *ℤ pos d)
two_errors a b c s d err fel h p q =
    let wide : (pos a *ℤ pos s) ≤ℤ ((pos b +ℤ pos c) *ℤ pos s) = int_le-mul_pos (pos a) (pos b +ℤ pos c) s (int_le-pos a (b + c) h) in
    let both : (pos b *ℤ pos s +ℤ pos c *ℤ pos s) ≤ℤ (err *ℤ pos d +ℤ fel *ℤ pos d) = int_le-add _ _ _ _ p q in
    int_le_trans _ _ _ wide (rw (int_add-mul (pos b) (pos c) (pos s), int_add-mul err fel (pos d)) both)

-- a whole factor multiplies the error
pub near-times : (s d k : ℕ) (m x err : ℤ) → IsNear s d m x err → IsNear s d (m *ℤ pos k) (x *ℤ pos k) (err *ℤ pos k)
near-times s d k m x err p =
    let apart : unsigned_abs (m *ℤ pos k *ℤ pos d -ℤ x *ℤ pos k) ≡ unsigned_abs (m *ℤ pos d -ℤ x) * k = rw (int_mul_right_comm m (pos k) (pos d)) (unsigned_abs-sub-mul (m *ℤ pos d) x (pos k)) in
    record {
      near = rw (apart, int_mul_right_comm err (pos k) (pos d)) (int_le_trans _ _ _ (int_le_of-eq _ _ (int_mul_right_comm (pos (unsigned_abs (m *ℤ pos d -ℤ x))) (pos k) (pos s))) (int_le-mul_pos _ _ k p.near));
    }

regroup : (q : ℤ) (k d : ℕ) → q *ℤ pos k *ℤ pos d ≡ q *ℤ pos (d * k)
regroup q k d = rw (as_difference q) (simp differences (same _ _ _ _ (omega arith)))

-- where r is less than one from m / k, it errs by one more than the least whole number not below err / k
pub near-narrowed : (s d k : ℕ) (m r x err q : ℤ) → unsigned_abs (r *ℤ pos k -ℤ m) < k → err ≤ℤ (q *ℤ pos k) → IsNear s d m x err → IsNear s (d * k) r x (q +ℤ pos s)
near-narrowed s d k m r x err q moved above p =
    let split : r *ℤ pos (d * k) ≡ r *ℤ pos k *ℤ pos d = sym (regroup r k d) in
    let way : unsigned_abs (r *ℤ pos k *ℤ pos d -ℤ x) ≤ unsigned_abs (r *ℤ pos k *ℤ pos d -ℤ m *ℤ pos d) + unsigned_abs (m *ℤ pos d -ℤ x) = unsigned_abs-triangle (r *ℤ pos k *ℤ pos d) (m *ℤ pos d) x in
    let first : unsigned_abs (r *ℤ pos k *ℤ pos d -ℤ m *ℤ pos d) ≡ unsigned_abs (r *ℤ pos k -ℤ m) * d = unsigned_abs-sub-mul (r *ℤ pos k) m (pos d) in
    let short : unsigned_abs (r *ℤ pos k -ℤ m) * d ≤ k * d = mul-le-mul_right d (le_of_lt moved) in
    let moves : (pos (k * d) *ℤ pos s) ≤ℤ (pos s *ℤ pos (d * k)) = int_le_of-eq _ _ (ap pos (omega arith)) in
    let errs : (pos (unsigned_abs (m *ℤ pos d -ℤ x)) *ℤ pos s) ≤ℤ (q *ℤ pos (d * k)) = int_le_trans _ _ _ p.near (int_le_trans _ _ _ (int_le-mul_pos err (q *ℤ pos k) d above) (int_le_of-eq _ _ (regroup q k d))) in
    record { near = rw split (two_errors _ (unsigned_abs (m *ℤ pos d -ℤ x)) (k * d) s (d * k) q (pos s) (omega arith) errs moves) }
