-- The equation of a wire gives the same where the cells that it reads are the same.
use Rattle.std.specs.Prelude.{◌≡◌, ℕ, zero, suc, ◌<◌, List, ℤ}
use Rattle.std.proofs.Common.{refl, ap, ap₂, arith}
use Rattle.net_model.specs.declared.wires.Item.{Item}
use Rattle.net_model.specs.declared.wires.Item.TheVariants.{Input, Const, Delay, Block as OfBlock}
use Rattle.net_model.specs.Wires.{NetData, wire_at, argument_of}
use Rattle.net_meaning.specs.Cells.{Cell, Meaning, stateless}
use Rattle.net_meaning.specs.Runs.{delayed, equation_of}
use Rattle.net_meaning.proofs.Arguments.{ArgumentsEarlier}

-- readings that agree everywhere are one
pub same_readings : {V : Type 0} (f g : ℕ → ℕ → V) → ((p ago : ℕ) → f p ago ≡ g p ago) → f ≡ g
same_readings f g h = λ i p ago. h p ago i

pub same_equation : {V : Type 0} (M : Meaning V) (net : NetData) (rows : List (List ℤ)) (c d : ℕ → ℕ → Cell V) (i : ℕ) (item : Item) → ArgumentsEarlier i item → ((k : ℕ) → k < i → c 0 k ≡ d 0 k) → ((ago k : ℕ) → c (suc ago) k ≡ d (suc ago) k) → equation_of M net rows c i item ≡ equation_of M net rows d i item
unfolding equation_of
same_equation M net rows c d i (Input lo hi) earlier now before = refl
same_equation M net rows c d i (Const value) earlier now before = refl
same_equation M net rows c d i (Delay init source) earlier now before = ap (λ x. stateless M (delayed M rows init x.value)) (before 0 source.0)
same_equation M net rows c d i (OfBlock b) earlier now before = ap₂ (M.of_block net (wire_at net.wires i).kind b) (same_readings _ _ read) (before 0 i)
  where
    read : (p ago : ℕ) → (c ago (argument_of b p)).value ≡ (d ago (argument_of b p)).value
    read p zero = ap (λ x. x.value) (now (argument_of b p) (earlier p))
    read p (suc ago) = ap (λ x. x.value) (before ago (argument_of b p))

-- what holds of each number where it holds of all smaller ones
pub by_smaller : (P : ℕ → Type 0) → ((i : ℕ) → ((k : ℕ) → k < i → P k) → P i) → (n i : ℕ) → i < n → P i
by_smaller P step zero i h = absurd (omega arith)
by_smaller P step (suc n) i h = step i (λ k l. by_smaller P step n k (omega arith))
