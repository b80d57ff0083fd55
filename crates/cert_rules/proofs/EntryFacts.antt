-- What the tests of an entry say, and how small allowed entries of values are.
use Rattle.std.proofs.Common.{◌≡◌, ℕ, zero, suc, ◌-◌, ◌*◌, ◌<◌, ◌≤◌, ◌^◌, Bool, true, ◌&&◌, length, List, [], ◌∷◌, get_or, arith, refl, subst, pos, negsuc, ◌≤ℤ◌, int_le, int_lt, sym, ap, ◌∙◌, Fits, w32, Fits-le, Fits-lit}
use Rattle.std.proofs.lemmas.Bool.{and_parts}
use Rattle.std.proofs.lemmas.Int.{ints}
use Rattle.fx_fraction.proofs.WholeNumbers.{int_le-true, int_lt-true, int_le_trans}
use Rattle.fx_core.specs.declared.word_type.Ty.{Ty}
use Rattle.fx_core.specs.declared.word_type.Ty.TheVariants.{U8, S8, U16, S16, U32, S32}
use Rattle.fx_core.specs.Types.{least_of, greatest_of}
use Rattle.net_model.specs.declared.wires.Kind.{Kind}
use Rattle.net_model.specs.declared.wires.Kind.TheVariants.{Num, Truth, Position}
use Rattle.net_model.specs.declared.wires.Role.{Role}
use Rattle.net_model.specs.declared.wires.Role.TheVariants.{Y, X1, X2, W, Value}
use Rattle.net_model.specs.declared.wires.Part.{Part}
use Rattle.net_model.specs.Wires.{NamedAxis, NetData, axis_at, wire_at, kind_least, kind_greatest, no_part, point_of, parts_of}
use Rattle.net_model.specs.Validity.{AreAxes, IsValid}
use Rattle.net_model.proofs.ValidityFacts.{point_of-valid}
use Rattle.net_model.proofs.HeldKinds.{few_points}
use Rattle.net_model.proofs.PartPlaces.{few_parts, part_there}
use Rattle.part_rules.specs.declared.bounds.Bounds.{Bounds}
use Rattle.part_rules.specs.Entries.{IsSmall}
use Rattle.part_rules.specs.PartRules.{IsProper}
use Rattle.part_rules.specs.Within.{no_bounds}
use Rattle.cert_rules.specs.Rules.{is_allowed, is_between_ends, kind_of_part, least_by_role, greatest_by_role, least_of_part, greatest_of_part, cap_of_role}
use Rattle.cert_rules.specs.Acceptance.{AreAllowed, is_allowed_entry, part_at}
use Rattle.cert_rules.specs.GivenBounds.{IsSized}
use Rattle.cert_rules.specs.Soundness.{AreAllowedFor}

-- ---- the ends of kinds are small

least_of-low : (t : Ty) → negsuc 2147483647 ≤ℤ least_of t
least_of-low U8 = record { le = tt }
least_of-low S8 = record { le = tt }
least_of-low U16 = record { le = tt }
least_of-low S16 = record { le = tt }
least_of-low U32 = record { le = tt }
least_of-low S32 = record { le = tt }

greatest_of-high : (t : Ty) → greatest_of t ≤ℤ pos 4294967295
greatest_of-high U8 = record { le = tt }
greatest_of-high S8 = record { le = tt }
greatest_of-high U16 = record { le = tt }
greatest_of-high S16 = record { le = tt }
greatest_of-high U32 = record { le = tt }
greatest_of-high S32 = record { le = tt }

kind_least-low : (axes : List NamedAxis) (kind : Kind) → negsuc 2147483647 ≤ℤ kind_least axes kind
kind_least-low axes (Num ty point) = least_of-low ty
kind_least-low axes Truth = record { le = tt }
kind_least-low axes (Position axis) = record { le = tt }

position-high : (n : ℕ) → n ≤ 4096 → pos (65536 * (n - 1)) ≤ℤ pos 4294967295
position-high n few = omega (arith, ints)

kind_greatest-high : (axes : List NamedAxis) (kind : Kind) → AreAxes axes → kind_greatest axes kind ≤ℤ pos 4294967295
kind_greatest-high axes (Num ty point) valid = greatest_of-high ty
kind_greatest-high axes Truth valid = record { le = tt }
kind_greatest-high axes (Position axis) valid = position-high (length (axis_at axes axis).points) (few_points axes valid axis)

pub three_tests : (a b c : Bool) → (a && b && c) ≡ true → (a ≡ true) × (b ≡ true) × (c ≡ true)
three_tests a b c h =
    let h1 = and_parts (a && b) c h in
    let h2 = and_parts a b h1.0 in
    (h2.0, h2.1, h1.1)

-- ---- what the tests say

-- of bounds
pub record AreBetween (net : NetData) (part : Part) (b : Bounds) : Type 0 where
  pub low : least_of_part net part ≤ℤ b.lo
  pub high : b.hi ≤ℤ greatest_of_part net part
  pub near : int_lt b.err (cap_of_role part.role) ≡ true

pub are_between : (net : NetData) (part : Part) (b : Bounds) → is_allowed net part b ≡ true → AreBetween net part b
unfolding is_allowed
are_between net part b h =
    let t = three_tests (is_between_ends net part b.lo) (is_between_ends net part b.hi) (int_lt b.err (cap_of_role part.role)) h in
    let low = and_parts (int_le (least_of_part net part) b.lo) (int_le b.lo (greatest_of_part net part)) t.0 in
    let high = and_parts (int_le (least_of_part net part) b.hi) (int_le b.hi (greatest_of_part net part)) t.1 in
    record {
      low = int_le-true (least_of_part net part) b.lo low.0;
      high = int_le-true b.hi (greatest_of_part net part) high.1;
      near = t.2;
    }

-- of an entry
pub record IsAllowedEntry (net : NetData) (part : Part) (b : Bounds) : Type 0 where
  pub between : AreBetween net part b
  pub proper : IsProper b

pub allowed_entry : (net : NetData) (part : Part) (b : Bounds) → is_allowed_entry net part b ≡ true → IsAllowedEntry net part b
allowed_entry net part b h =
    let t = three_tests _ _ _ h in
    record {
      between = are_between net part b t.0;
      proper = record { ordered = int_le-true b.lo b.hi t.1; positive = int_le-true (pos 0) b.err t.2 };
    }

small_by : (axes : List NamedAxis) (kind : Kind) (b : Bounds) → AreAxes axes → kind_least axes kind ≤ℤ b.lo → b.hi ≤ℤ kind_greatest axes kind → int_lt b.err (pos (2 ^ 40)) ≡ true → IsProper b → IsSmall b
small_by axes kind b valid low high near proper = record {
  low = int_le_trans _ _ _ (kind_least-low axes kind) low;
  ordered = proper.ordered;
  high = int_le_trans _ _ _ high (kind_greatest-high axes kind valid);
  positive = proper.positive;
  near = int_lt-true b.err (pos (2 ^ 40)) near;
}

-- allowed bounds of a part whose range isn't empty and whose error isn't negative are small enough for its role
sized_by : (axes : List NamedAxis) (role : Role) (kind : Kind) (b : Bounds) → AreAxes axes → least_by_role axes kind role ≤ℤ b.lo → b.hi ≤ℤ greatest_by_role axes kind role → int_lt b.err (cap_of_role role) ≡ true → IsProper b → IsSized role b
sized_by axes Y kind b valid low high near proper = record { low = low; ordered = proper.ordered; high = high; positive = proper.positive; near = int_lt-true b.err (pos (2 ^ 56)) near }
sized_by axes Value kind b valid low high near proper = small_by axes kind b valid low high near proper
sized_by axes X1 kind b valid low high near proper = small_by axes kind b valid low high near proper
sized_by axes X2 kind b valid low high near proper = small_by axes kind b valid low high near proper
sized_by axes W kind b valid low high near proper = small_by axes kind b valid low high near proper

pub sized_entry : (net : NetData) (part : Part) (b : Bounds) → IsValid net → AreBetween net part b → IsProper b → IsSized part.role b
sized_entry net part b valid between proper = sized_by net.axes part.role (kind_of_part net part) b valid.axes between.low between.high between.near proper

-- no bounds are small
pub small_none : IsSmall no_bounds
small_none = record { low = record { le = tt }; ordered = record { le = tt }; high = record { le = tt }; positive = record { le = tt }; near = record { lt = tt } }

-- ---- numbers of parts and points

-- what is read of a list where it has something
pub any_default : (parts : List Part) (k : ℕ) (d e : Part) → k < length parts → get_or parts k d ≡ get_or parts k e
any_default [] k d e h = absurd (omega arith)
any_default (part ∷ parts) zero d e h = refl
any_default (part ∷ parts) (suc k) d e h = any_default parts k d e (omega arith)

-- the part of a number stands on a wire
pub part_at-wire : (net : NetData) (k : ℕ) → k < length (parts_of net.wires) → (part_at net k).wire.0 < length net.wires
part_at-wire net k h = (part_there net k h).wire

-- the same of a part that is read from the list, whatever is read where there is none
pub part-wire : (net : NetData) (k : ℕ) (none : Part) → k < length (parts_of net.wires) → (get_or (parts_of net.wires) k none).wire.0 < length net.wires
part-wire net k none h = subst (λ (part : Part). part.wire.0 < length net.wires) (any_default (parts_of net.wires) k no_part none h) (part_at-wire net k h)

-- a point that was read
pub point-valid : (net : NetData) (i : ℕ) (kind : Kind) (point : ℕ) (ty : Ty) → IsValid net → i < length net.wires → kind ≡ (wire_at net.wires i).kind → kind ≡ Num ty point → point ≤ 15
point-valid net i kind point ty valid h is case =
    rw (ap point_of (sym case ∙ is)) (point_of-valid net i valid h)

-- ---- all parts

-- the number of parts is a word
pub count_fits : (net : NetData) → IsValid net → Fits w32 (length (parts_of net.wires))
count_fits net valid = Fits-le (few_parts net valid) (Fits-lit tt)

-- where each entry is allowed those that a rule reads are
pub allowed_for : (net : NetData) (entries : List Bounds) (p : ℕ) → AreAllowed net entries → AreAllowedFor net entries p
allowed_for net entries p allowed k h read = allowed k h
