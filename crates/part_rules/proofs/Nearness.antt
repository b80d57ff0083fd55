-- How the operations of fractions pass errors on, in units of 1/65536. `Near a a' err` says that a is within err of a'.
use Rattle.std.specs.Prelude.{ℤ, ◌+ℤ◌, ◌≤ℤ◌}
use Rattle.std.specs.Int.{int_max}
use Rattle.std.proofs.Common.{arith}
use Rattle.fx_fraction.specs.Fraction.{Fraction, over, plus, minus, lesser, greater, absolute, distance, AtMost}
use Rattle.fx_fraction.proofs.WholeNumbers.{int_le_refl}
use Rattle.fx_fraction.proofs.Denominators.{is_over, is_plus, is_greater, AtMost-in}
use Rattle.fx_fraction.proofs.Order.{AtMost_trans, AtMost-plus, AtMost-greater, AtMost-over}
use Rattle.fx_fraction.proofs.Distances.{distance-plus, distance-minus, distance-absolute, distance-lesser, distance-greater}

pub record Near (a a' : Fraction) (err : ℤ) : Type 0 where
  pub near : AtMost (distance a a') (over err 65536)

-- what is within an error is within a larger one
pub near_wider : (a a' : Fraction) (err fel : ℤ) → err ≤ℤ fel → Near a a' err → Near a a' fel
near_wider a a' err fel h p = record { near = AtMost_trans (distance a a') (over err 65536) (over fel 65536) p.near (AtMost-over err fel 65536 (omega arith) h) }

-- two errors together
both_errors : (err fel : ℤ) → AtMost (plus (over err 65536) (over fel 65536)) (over (err +ℤ fel) 65536)
both_errors err fel = AtMost-in (is_plus (is_over err 65536 (omega arith)) (is_over fel 65536 (omega arith))) (is_over (err +ℤ fel) 65536 (omega arith)) (int_le_refl _)

pub near_plus : (a a' b b' : Fraction) (err fel : ℤ) → Near a a' err → Near b b' fel → Near (plus a b) (plus a' b') (err +ℤ fel)
near_plus a a' b b' err fel p q = record {
  near = AtMost_trans (distance (plus a b) (plus a' b')) (plus (distance a a') (distance b b')) (over (err +ℤ fel) 65536) (distance-plus a b a' b')
      (AtMost_trans (plus (distance a a') (distance b b')) (plus (over err 65536) (over fel 65536)) (over (err +ℤ fel) 65536) (AtMost-plus (distance a a') (over err 65536) (distance b b') (over fel 65536) p.near q.near) (both_errors err fel));
}

pub near_minus : (a a' b b' : Fraction) (err fel : ℤ) → Near a a' err → Near b b' fel → Near (minus a b) (minus a' b') (err +ℤ fel)
near_minus a a' b b' err fel p q = record {
  near = AtMost_trans (distance (minus a b) (minus a' b')) (plus (distance a a') (distance b b')) (over (err +ℤ fel) 65536) (distance-minus a b a' b')
      (AtMost_trans (plus (distance a a') (distance b b')) (plus (over err 65536) (over fel 65536)) (over (err +ℤ fel) 65536) (AtMost-plus (distance a a') (over err 65536) (distance b b') (over fel 65536) p.near q.near) (both_errors err fel));
}

pub near_absolute : (a a' : Fraction) (err : ℤ) → Near a a' err → Near (absolute a) (absolute a') err
near_absolute a a' err p = record { near = AtMost_trans (distance (absolute a) (absolute a')) (distance a a') (over err 65536) (distance-absolute a a') p.near }

-- the larger of two errors
larger_error : (err fel : ℤ) → AtMost (greater (over err 65536) (over fel 65536)) (over (int_max err fel) 65536)
larger_error err fel = AtMost-in (is_greater (is_over err 65536 (omega arith)) (is_over fel 65536 (omega arith))) (is_over (int_max err fel) 65536 (omega arith)) (int_le_refl _)

pub near_lesser : (a a' b b' : Fraction) (err fel : ℤ) → Near a a' err → Near b b' fel → Near (lesser a b) (lesser a' b') (int_max err fel)
near_lesser a a' b b' err fel p q = record {
  near = AtMost_trans (distance (lesser a b) (lesser a' b')) (greater (distance a a') (distance b b')) (over (int_max err fel) 65536) (distance-lesser a b a' b')
      (AtMost_trans (greater (distance a a') (distance b b')) (greater (over err 65536) (over fel 65536)) (over (int_max err fel) 65536) (AtMost-greater (distance a a') (over err 65536) (distance b b') (over fel 65536) p.near q.near) (larger_error err fel));
}

pub near_greater : (a a' b b' : Fraction) (err fel : ℤ) → Near a a' err → Near b b' fel → Near (greater a b) (greater a' b') (int_max err fel)
near_greater a a' b b' err fel p q = record {
  near = AtMost_trans (distance (greater a b) (greater a' b')) (greater (distance a a') (distance b b')) (over (int_max err fel) 65536) (distance-greater a b a' b')
      (AtMost_trans (greater (distance a a') (distance b b')) (greater (over err 65536) (over fel 65536)) (over (int_max err fel) 65536) (AtMost-greater (distance a a') (over err 65536) (distance b b') (over fel 65536) p.near q.near) (larger_error err fel));
}
