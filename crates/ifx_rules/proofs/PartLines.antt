-- What is part of a broken line: a line over a whole number of parts.
use Rattle.std.specs.Prelude.{ℕ, ◌*◌, ◌≤◌, List, ℤ, ◌≤ℤ◌}
use Rattle.std.proofs.Common.{sym, arith}
use Rattle.fx_fraction.specs.Fraction.{Fraction, whole, AtMost, Same}
use Rattle.fx_fraction.proofs.Denominators.{is_same, common_two, AtMost-in, AtMost-out}
use Rattle.part_rules.specs.declared.bounds.Bounds.{Bounds}
use Rattle.part_rules.specs.Ranges.{corners_at}
use Rattle.part_rules.proofs.RangesGrow.{Each}
use Rattle.ifx_rules.proofs.Slopes.{Near, near_in, near_out}
use Rattle.ifx_rules.proofs.Heights.{IsConvex}
use Rattle.ifx_rules.proofs.LineRanges.{IsLine, each_turned, line_inside, named_of}
use Rattle.ifx_rules.proofs.LineRules.{line_near_named}
use Rattle.ifx_rules.proofs.SurfaceLines.{part, is_part}

-- so many times a function it is a line that bends at these points, and the function is nowhere steeper than D / G
pub record IsPartLine (D G : ℕ) (value : Fraction → Fraction) (points : List ℤ) : Type 0 where
  pub parts : ℕ
  pub some : 1 ≤ parts
  pub all : Fraction → Fraction
  pub line : IsLine (D * parts) G all points
  pub same : (x : Fraction) → Same (value x) (part parts (all x))

-- ---- its slope

parts_step : (a b D G d e n : ℕ) → a * G * d ≤ b * (D * n) * e → a * G * d ≤ b * D * (n * e)
parts_step a b D G d e n h = omega (arith, h)

pub part_near : {D G : ℕ} (value : Fraction → Fraction) (points : List ℤ) → IsPartLine D G value points → (x y : Fraction) → Near D G x y (value x) (value y)
part_near {D} {G} value points l x y =
    let c = common_two x y in
    let k = common_two (l.all x) (l.all y) in
    let near = near_out c.first c.second k.first k.second (line_near_named l.all points l.line x y) in
    near_in c.first c.second (is_same (sym (l.same x)) (is_part l.some k.first)) (is_same (sym (l.same y)) (is_part l.some k.second)) (parts_step _ _ D G c.bottom k.bottom l.parts near)

-- ---- its range

part_grows : (d : ℕ) (f g : Fraction) → 1 ≤ d → AtMost f g → AtMost (part d f) (part d g)
part_grows d f g some h =
    let c = common_two f g in
    AtMost-in (is_part some c.first) (is_part some c.second) (AtMost-out c.first c.second h)

part_convex : (d : ℕ) (P : Fraction → Type 0) → 1 ≤ d → IsConvex P → IsConvex (λ f. P (part d f))
part_convex d P some c = record { between = λ f g h p q m n. c.between (part d f) (part d g) (part d h) (part_grows d f g some p) (part_grows d g h some q) m n }

-- what holds of the function at all corners of a range holds of it over the range
pub part_inside : {D G : ℕ} (P : Fraction → Type 0) (value : Fraction → Fraction) (points : List ℤ) (b : Bounds) → IsConvex P → IsPartLine D G value points → (m : ℤ) → b.lo ≤ℤ m → m ≤ℤ b.hi → Each (λ z. P (value (whole z))) (corners_at b points) → P (value (whole m))
part_inside P value points b convex l m h k corners =
    let named : (f g : Fraction) → Same f g → P f → P g = named_of P convex in
    let there = each_turned (λ z. P (value (whole z))) (λ z. P (part l.parts (l.all (whole z)))) (λ z p. named (value (whole z)) (part l.parts (l.all (whole z))) (l.same (whole z)) p) (corners_at b points) corners in
    named (part l.parts (l.all (whole m))) (value (whole m)) (sym (l.same (whole m)))
    (line_inside (λ f. P (part l.parts f)) l.all points b (part_convex l.parts P l.some convex) l.line m h k there)
