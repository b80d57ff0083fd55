-- What each routine on bits answers.
use Rattle.std.specs.Prelude.{ℕ, ◌+◌, ◌-◌, ◌%◌, ◌==◌, ℤ, ◌≤ℤ◌, pos, negsuc, Bool, true, false, not, ◌&&◌, ◌||◌, nat_lt, unsigned_abs, if◌then◌else◌, List, [], ◌∷◌}
use Rattle.fx_core.specs.Rounding.{shifted_rounded}
use Rattle.fx_core.specs.Types.{greatest_of, least_of, saturated, saturated_to, width_of}
use Rattle.fx_core.specs.declared.quotient.Mode.TheVariants.{Floor}
use Rattle.fx_core.specs.declared.word_type.Ty.{Ty}
use Rattle.fx_core.specs.declared.word_type.Ty.TheVariants.{U8, S8}
use Rattle.fx_routines.specs.Variants.{is_signed}
use Rattle.fx_routines.specs.declared.bits.BitOp.{BitOp}
use Rattle.fx_routines.specs.declared.bits.BitOp.TheVariants.{SetBit, ClrBit, GetBit, PutBit, SetBits, GetBits, PutBits, CopyBit, SetBitMask, ClrBitMask, ToggleBitMask, PutBitsMask, TstBitMask, TstBitLnMask, TstParityEven, ToggleBits, RotBitLt, RotBitRt, ShiftBitLt, ShiftBitRt, ShiftBitSat}
use Rattle.bfx_bits.specs.Bits.{bit_of, word_of, each_below, some_below, count_below}

-- the type is the one that the operation's routines are of: a signed one for the saturated shift, else an unsigned one
abbrev pub takes_type : BitOp → Ty → Bool
takes_type ShiftBitSat t = is_signed t
takes_type other t = not (is_signed t)

-- the ends of an argument: of a word of the routine's type; of a place, length or count without a sign; of a status;
-- and of a count with a sign
abbrev pub word_ends : Ty → ℤ × ℤ
word_ends t = (least_of t, greatest_of t)

abbrev pub place_ends : ℤ × ℤ
place_ends = word_ends U8

abbrev pub status_ends : ℤ × ℤ
status_ends = (pos 0, pos 1)

abbrev pub count_ends : ℤ × ℤ
count_ends = word_ends S8

-- the ends of the arguments of a routine at the type t, in their order
abbrev pub argument_ends : BitOp → Ty → List (ℤ × ℤ)
argument_ends PutBit t = word_ends t ∷ place_ends ∷ status_ends ∷ []
argument_ends SetBits t = word_ends t ∷ place_ends ∷ place_ends ∷ status_ends ∷ []
argument_ends GetBits t = word_ends t ∷ place_ends ∷ place_ends ∷ []
argument_ends PutBits t = word_ends t ∷ place_ends ∷ place_ends ∷ word_ends t ∷ []
argument_ends CopyBit t = word_ends t ∷ place_ends ∷ word_ends t ∷ place_ends ∷ []
argument_ends SetBitMask t = word_ends t ∷ word_ends t ∷ []
argument_ends ClrBitMask t = word_ends t ∷ word_ends t ∷ []
argument_ends ToggleBitMask t = word_ends t ∷ word_ends t ∷ []
argument_ends PutBitsMask t = word_ends t ∷ word_ends t ∷ word_ends t ∷ []
argument_ends TstBitMask t = word_ends t ∷ word_ends t ∷ []
argument_ends TstBitLnMask t = word_ends t ∷ word_ends t ∷ []
argument_ends TstParityEven t = word_ends t ∷ []
argument_ends ToggleBits t = word_ends t ∷ []
argument_ends ShiftBitSat t = word_ends t ∷ count_ends ∷ []
argument_ends other t = word_ends t ∷ place_ends ∷ []

-- there is a number between each pair of ends, in their order; numbers past the pairs are not looked at
abbrev pub AreBetween : List (ℤ × ℤ) → List ℤ → Type 0
AreBetween [] numbers = Unit {0}
AreBetween (e ∷ ends) [] = ⊥
AreBetween (e ∷ ends) (n ∷ numbers) = ((e.0 ≤ℤ n) × (n ≤ℤ e.1)) × AreBetween ends numbers

-- each argument that the routine has is a number of its type; those that it doesn't have are not looked at
abbrev pub HasArguments : BitOp → Ty → ℤ → ℤ → ℤ → ℤ → Type 0
HasArguments op t a b c d = AreBetween (argument_ends op t) (a ∷ b ∷ c ∷ d ∷ [])

-- a truth value as a number
abbrev pub truth : Bool → ℤ
truth s = if s then pos 1 else pos 0

-- a number as a truth value
abbrev pub status : ℤ → Bool
status s = unsigned_abs s == 1

-- the place j is one of `len` places from `start` up
abbrev pub is_within : ℕ → ℕ → ℕ → Bool
is_within start len j = not (nat_lt j start) && nat_lt j (start + len)

-- a count held between -31 and 31; for a private function's clause alone
abbrev pub near_count : ℤ → ℤ
near_count n = saturated_to (negsuc 30) (pos 31) n

-- the value of a routine at the type t, with its arguments in their order; those that it doesn't have are not looked at
unfoldable pub bit_value : BitOp → Ty → ℤ → ℤ → ℤ → ℤ → ℤ
bit_value SetBit t w p c d = word_of t (λ j. if j == unsigned_abs p then true else bit_of t w j)
bit_value ClrBit t w p c d = word_of t (λ j. if j == unsigned_abs p then false else bit_of t w j)
bit_value GetBit t w p c d = truth (bit_of t w (unsigned_abs p))
bit_value PutBit t w p s d = word_of t (λ j. if j == unsigned_abs p then status s else bit_of t w j)
bit_value SetBits t w start len s = word_of t (λ j. if is_within (unsigned_abs start) (unsigned_abs len) j then status s else bit_of t w j)
bit_value GetBits t w start len d = word_of t (λ j. if nat_lt j (unsigned_abs len) then bit_of t w (unsigned_abs start + j) else false)
bit_value PutBits t w start len pattern =
    word_of t (λ j. if is_within (unsigned_abs start) (unsigned_abs len) j then bit_of t pattern (j - unsigned_abs start) else bit_of t w j)
bit_value CopyBit t w p source q = word_of t (λ j. if j == unsigned_abs p then bit_of t source (unsigned_abs q) else bit_of t w j)
bit_value SetBitMask t w mask c d = word_of t (λ j. bit_of t w j || bit_of t mask j)
bit_value ClrBitMask t w mask c d = word_of t (λ j. bit_of t w j && not (bit_of t mask j))
bit_value ToggleBitMask t w mask c d = word_of t (λ j. if bit_of t mask j then not (bit_of t w j) else bit_of t w j)
bit_value PutBitsMask t w pattern mask d = word_of t (λ j. if bit_of t mask j then bit_of t pattern j else bit_of t w j)
bit_value TstBitMask t w mask c d = truth (each_below (width_of t) (λ j. if bit_of t mask j then bit_of t w j else true))
bit_value TstBitLnMask t w mask c d = truth (some_below (width_of t) (λ j. bit_of t mask j && bit_of t w j))
bit_value TstParityEven t w b c d = truth (count_below (width_of t) (bit_of t w) % 2 == 0)
bit_value ToggleBits t w b c d = word_of t (λ j. not (bit_of t w j))
bit_value RotBitLt t w n c d = word_of t (λ j. bit_of t w ((j + (width_of t - unsigned_abs n % width_of t)) % width_of t))
bit_value RotBitRt t w n c d = word_of t (λ j. bit_of t w ((j + unsigned_abs n) % width_of t))
bit_value ShiftBitLt t w n c d = word_of t (λ j. if nat_lt j (unsigned_abs n) then false else bit_of t w (j - unsigned_abs n))
bit_value ShiftBitRt t w n c d = word_of t (λ j. bit_of t w (j + unsigned_abs n))
bit_value ShiftBitSat t w n c d = saturated t (shifted_rounded Floor w n)
