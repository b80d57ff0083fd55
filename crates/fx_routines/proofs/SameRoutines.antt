-- `==` of routines tells which are the same: variant by variant, with no case for two of them.
use Rattle.std.proofs.Common.{◌≡◌, Bool, true, false, inl, inr, List, [], ◌∷◌, refl, ap, subst}
use denote.Enum.Bare.{Bare, sameb, same_true, true_same}
use denote.Enum.Compared.{Each, by}
use denote.Enum.Declared.{Choice, Declared, Record, field, values_one}
use denote.Struct.Field.{Field}
use denote.Struct.Values.{Values}
use Rattle.fx_routines.specs.contracts.bits.BitOp as bit
use Rattle.fx_routines.specs.contracts.control.ControlOp as control
use Rattle.fx_routines.specs.contracts.control.EdgeOp as edge
use Rattle.fx_routines.specs.contracts.control.FilterOp as filter
use Rattle.fx_routines.specs.contracts.control.HystOp as hyst
use Rattle.fx_routines.specs.contracts.control.SwitchOp as switch
use Rattle.fx_routines.specs.contracts.interpolation.CurveOp as curve
use Rattle.fx_routines.specs.contracts.interpolation.InterpolationOp as interpolation
use Rattle.fx_routines.specs.contracts.interpolation.MapOp as map
use Rattle.fx_routines.specs.contracts.control.SwitchOpPartialEq.TheImpl as switch_eq
use Rattle.fx_routines.specs.contracts.interpolation.InterpolationOpPartialEq.TheImpl as interpolation_eq
use Rattle.fx_routines.specs.contracts.operation.ArithOp as arith
use Rattle.fx_routines.specs.contracts.operation.ScaledOp as scaled
use Rattle.fx_routines.specs.contracts.table.Routine as routine
use Rattle.fx_routines.specs.declared.control.SwitchOp.{SwitchOp}
use Rattle.fx_routines.specs.declared.interpolation.InterpolationOp.{InterpolationOp}
use Rattle.fx_routines.specs.declared.table.Routine.{Routine}
use Rattle.fx_routines.specs.Rows.{same_routine}

-- a test that tells which values are the same
abbrev Tells : {A : Type 0} → (A → A → Bool) → Type 0
Tells {A} same = (x y : A) → (same x y ≡ true → x ≡ y) × (x ≡ y → same x y ≡ true)

-- of each variant's values one does
abbrev TellEach : (Fss : List (List Field)) → Each Bool Fss → Type 0
TellEach [] each = Unit {0}
TellEach (Fs ∷ Fss) each = Tells each.0 × TellEach Fss each.1

same_choice : (Fss : List (List Field)) (each : Each Bool Fss) → TellEach Fss each → (c d : Choice Fss)
    → by false false Fss each c d ≡ true → c ≡ d
same_choice [] each tell c d h = absurd c
same_choice (Fs ∷ Fss) each tell (inl x) (inl y) h = ap inl ((tell.0 x y).0 h)
same_choice (Fs ∷ Fss) each tell (inl x) (inr d) h = absurd (cc)
same_choice (Fs ∷ Fss) each tell (inr c) (inl y) h = absurd (cc)
same_choice (Fs ∷ Fss) each tell (inr c) (inr d) h = ap inr (same_choice Fss each.1 tell.1 c d h)

choice_same : (Fss : List (List Field)) (each : Each Bool Fss) → TellEach Fss each → (c : Choice Fss)
    → by false false Fss each c c ≡ true
choice_same [] each tell c = absurd c
choice_same (Fs ∷ Fss) each tell (inl x) = (tell.0 x x).1 refl
choice_same (Fs ∷ Fss) each tell (inr c) = choice_same Fss each.1 tell.1 c

-- an enum whose variants have no fields
bare : (D : Declared) → Bare D.parts → Tells {A = D.D} (λ a b. sameb D a b)
bare D none a b = (same_true D none a b, true_same D a b)

-- an enum whose variants have fields
fielded : (N : Record) (each : Each Bool N.parts) → TellEach N.parts each
    → Tells {A = N.D} (λ a b. by false false N.parts each (N.as_values a) (N.as_values b))
fielded N each tell a b = (
  (λ h. values_one N a b (same_choice N.parts each tell (N.as_values a) (N.as_values b) h)),
  (λ same.
      subst (λ d. by false false N.parts each (N.as_values a) (N.as_values d) ≡ true) same
      (choice_same N.parts each tell (N.as_values a))),
)

-- a variant of no field, and one of one
none : Tells {A = Values []} (λ a b. true)
none a b = ((λ h. refl), (λ e. refl))

one : (F : Field) (same : F.Value → F.Value → Bool) → Tells same → Tells {A = Values (F ∷ [])} (λ a b. same a.0 b.0)
one F same tell a b = ((λ h. ap (λ x. (x, tt)) ((tell a.0 b.0).0 h)), (λ e. (tell a.0 b.0).1 (ap (λ x. x.0) e)))

-- a variant of one field, whose type is an enum without fields
operation : (D : Declared) → Bare D.parts → Tells {A = Values (field D ∷ [])} (λ a b. sameb D a.0 b.0)
operation D none = one (field D) (λ a b. sameb D a b) (bare D none)

infixr 5 ◌then◌
-- what tells of a variant, and of those behind it
abbrev ◌then◌ : {A B : Type 0} → A → B → A × B
tells then others = (tells, others)

interpolations : Tells {A = InterpolationOp} interpolation_eq.ghosts.eq
interpolations = fielded interpolation.enum _
    (none
    then operation curve.the_type tt
    then operation curve.the_type tt
    then operation map.the_type tt
    then operation map.the_type tt
    then tt)

switches : Tells {A = SwitchOp} switch_eq.ghosts.eq
switches = fielded switch.enum _ (operation hyst.the_type tt then none then operation edge.the_type tt then tt)

routines : Tells {A = Routine} same_routine
routines = fielded routine.enum _
    (operation arith.the_type tt
    then operation scaled.the_type tt
    then operation bit.the_type tt
    then one interpolation.the_field _ interpolations
    then operation filter.the_type tt
    then operation control.the_type tt
    then one switch.the_field _ switches
    then tt)

pub same_routine_gives : (a b : Routine) → same_routine a b ≡ true → a ≡ b
same_routine_gives a b = (routines a b).0

pub same_routine-same : (a : Routine) → same_routine a a ≡ true
same_routine-same a = (routines a a).1 refl
