-- The steps of all items are faithful, and what their wires keep is kept right.
use Rattle.std.proofs.Common.{◌≡◌, ℕ, ◌<◌, length, refl, ap}
use Rattle.net_model.specs.declared.wires.Block.{Block}
use Rattle.net_model.specs.declared.wires.Block.TheVariants.{Arith, Scaled, Gain, Average, Pt1, Dt1, Search, Curve, IntCurve}
use Rattle.net_model.specs.declared.wires.Item.{Item}
use Rattle.net_model.specs.declared.wires.Item.TheVariants.{Input, Const, Delay, Block as OfBlock}
use Rattle.net_model.specs.Wires.{NetData, wire_at}
use Rattle.net_model.specs.Validity.{IsValid}
use Rattle.net_model.proofs.ValidityFacts.{average-valid, pt1-valid, dt1-valid}
use Rattle.net_eval.specs.States.{CanStart, restarted}
use Rattle.net_eval.proofs.FaithfulSteps.{IsFaithful, IsKeptRight}
use Rattle.net_eval.proofs.PlainSteps.{input_faithful, const_faithful, delay_faithful, delay_kept}
use Rattle.net_eval.proofs.ArithSteps.{arith_faithful}
use Rattle.net_eval.proofs.ScaledSteps.{scaled_faithful}
use Rattle.net_eval.proofs.LookUpSteps.{search_faithful, curve_faithful, int_curve_faithful}
use Rattle.net_eval.proofs.FilterSteps.{gain_faithful, gain_kept, average_faithful, average_kept, pt1_faithful, pt1_kept, dt1_faithful, dt1_kept}

item_faithful : (net : NetData) (i : ℕ) (item : Item) → IsValid net → i < length net.wires → (wire_at net.wires i).item ≡ item → IsFaithful net i item
item_faithful net i (Input lo hi) valid lt e = input_faithful net i lo hi lt e
item_faithful net i (Const value) valid lt e = const_faithful net i value valid lt e
item_faithful net i (Delay init source) valid lt e = delay_faithful net i init source
item_faithful net i (OfBlock (Arith op v x y z shift)) valid lt e = arith_faithful net i op v x y z shift valid lt e
item_faithful net i (OfBlock (Scaled op v x y)) valid lt e = scaled_faithful net i op v x y valid lt e
item_faithful net i (OfBlock (Gain xty ty x k)) valid lt e = gain_faithful net i xty ty x k valid lt e
item_faithful net i (OfBlock (Average xty ty x n)) valid lt e = average_faithful net i xty ty x n valid lt e
item_faithful net i (OfBlock (Pt1 xty ty x teq k)) valid lt e = pt1_faithful net i xty ty x teq k valid lt e
item_faithful net i (OfBlock (Dt1 second xty ty x teq k)) valid lt e = dt1_faithful net i second xty ty x teq k valid lt e
item_faithful net i (OfBlock (Search ty x axis)) valid lt e = search_faithful net i ty x axis valid lt e
item_faithful net i (OfBlock (Curve op dp table)) valid lt e = curve_faithful net i op dp table valid lt e
item_faithful net i (OfBlock (IntCurve op x axis table)) valid lt e = int_curve_faithful net i op x axis table valid lt e

item_kept : (net : NetData) (i : ℕ) (item : Item) → IsValid net → i < length net.wires → (wire_at net.wires i).item ≡ item → IsKeptRight net i item
item_kept net i (Delay init source) valid lt e = delay_kept net i init source valid lt e
item_kept net i (OfBlock (Gain xty ty x k)) valid lt e = gain_kept net i xty ty x k
item_kept net i (OfBlock (Average xty ty x n)) valid lt e = average_kept net i xty ty x n valid lt e
item_kept net i (OfBlock (Pt1 xty ty x teq k)) valid lt e = pt1_kept net i xty ty x teq k valid lt e
item_kept net i (OfBlock (Dt1 second xty ty x teq k)) valid lt e = dt1_kept net i second xty ty x teq k valid lt e
-- a wire that keeps nothing keeps it right
item_kept net i (Input lo hi) valid lt e = record {
  start = refl;
  next = λ state inputs rows past kept. kept;
  may_start = refl;
  may_next = λ state values all held may. may;
  back = λ state may. ap restarted may;
}
item_kept net i (Const value) valid lt e = record {
  start = refl;
  next = λ state inputs rows past kept. kept;
  may_start = refl;
  may_next = λ state values all held may. may;
  back = λ state may. ap restarted may;
}
item_kept net i (OfBlock (Arith op v x y z shift)) valid lt e = record {
  start = refl;
  next = λ state inputs rows past kept. kept;
  may_start = refl;
  may_next = λ state values all held may. may;
  back = λ state may. may;
}
item_kept net i (OfBlock (Scaled op v x y)) valid lt e = record {
  start = refl;
  next = λ state inputs rows past kept. kept;
  may_start = refl;
  may_next = λ state values all held may. may;
  back = λ state may. may;
}
item_kept net i (OfBlock (Search ty x axis)) valid lt e = record {
  start = refl;
  next = λ state inputs rows past kept. kept;
  may_start = refl;
  may_next = λ state values all held may. may;
  back = λ state may. may;
}
item_kept net i (OfBlock (Curve op dp table)) valid lt e = record {
  start = refl;
  next = λ state inputs rows past kept. kept;
  may_start = refl;
  may_next = λ state values all held may. may;
  back = λ state may. may;
}
item_kept net i (OfBlock (IntCurve op x axis table)) valid lt e = record {
  start = refl;
  next = λ state inputs rows past kept. kept;
  may_start = refl;
  may_next = λ state values all held may. may;
  back = λ state may. may;
}

pub faithful : (net : NetData) (i : ℕ) → IsValid net → i < length net.wires → IsFaithful net i (wire_at net.wires i).item
faithful net i valid lt = item_faithful net i (wire_at net.wires i).item valid lt refl

pub kept_right : (net : NetData) (i : ℕ) → IsValid net → i < length net.wires → IsKeptRight net i (wire_at net.wires i).item
kept_right net i valid lt = item_kept net i (wire_at net.wires i).item valid lt refl

-- the numbers of each block are such that it can start
pub can_start : (net : NetData) (i : ℕ) (b : Block) → IsValid net → i < length net.wires → (wire_at net.wires i).item ≡ OfBlock b → CanStart b
can_start net i (Arith op v x y z shift) valid lt e = tt
can_start net i (Scaled op v x y) valid lt e = tt
can_start net i (Gain xty ty x k) valid lt e = tt
can_start net i (Search ty x axis) valid lt e = tt
can_start net i (Curve op dp table) valid lt e = tt
can_start net i (IntCurve op x axis table) valid lt e = tt
can_start net i (Average xty ty x n) valid lt e = let g = average-valid net i xty ty x n valid lt e in (g.some, g.few)
can_start net i (Pt1 xty ty x teq k) valid lt e = (pt1-valid net i xty ty x teq k valid lt e).weight
can_start net i (Dt1 second xty ty x teq k) valid lt e = (dt1-valid net i second xty ty x teq k valid lt e).weight
