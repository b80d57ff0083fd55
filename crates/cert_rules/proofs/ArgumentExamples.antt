-- What the rules of a worked network read: the sum takes its arguments against their order, the product takes one twice,
-- and a second argument that the absolute value doesn't have isn't read.
use Rattle.std.specs.Prelude.{◌≡◌, [], ◌∷◌, pos, refl, codes}
use Rattle.fx_core.specs.declared.word_type.Ty.TheVariants.{S16}
use Rattle.fx_routines.specs.declared.operation.ArithOp.TheVariants.{Add, Mul, Abs}
use Rattle.fx_routines.specs.declared.operation.Variant.{Variant}
use Rattle.net_model.specs.declared.wires.Kind.TheVariants.{Num}
use Rattle.net_model.specs.declared.wires.Block.TheVariants.{Arith}
use Rattle.net_model.specs.declared.wires.Item.TheVariants.{Input, Block as OfBlock}
use Rattle.net_model.specs.Wires.{NetData}
use Rattle.cert_rules.specs.Rules.{block_rule}
use Rattle.cert_rules.specs.Arguments.{passing, reads_at, read_by}

same : Variant
same = record { x = S16; y = S16; o = S16 }

net : NetData
net = record {
  axes = [];
  tables = [];
  wires =
      record { name = codes "a"; kind = Num S16 0; item = Input (pos 0) (pos 9) } ∷
      record { name = codes "b"; kind = Num S16 0; item = Input (pos 0) (pos 9) } ∷
      record { name = codes "s"; kind = Num S16 0; item = OfBlock (Arith Add same (record { 0 = 1 }) (record { 0 = 0 }) (record { 0 = 1 }) 0) } ∷
      record { name = codes "p"; kind = Num S16 0; item = OfBlock (Arith Mul same (record { 0 = 2 }) (record { 0 = 2 }) (record { 0 = 2 }) 0) } ∷
      record { name = codes "m"; kind = Num S16 0; item = OfBlock (Arith Abs same (record { 0 = 1 }) (record { 0 = 1 }) (record { 0 = 1 }) 0) } ∷ [];
  outs = [];
}

of_input : read_by net 0 ≡ []
unfolding net same passing reads_at block_rule
of_input = refl

of_sum : read_by net 2 ≡ record { 0 = 0 } ∷ record { 0 = 1 } ∷ []
unfolding net same passing reads_at block_rule
of_sum = refl

of_product : read_by net 3 ≡ record { 0 = 2 } ∷ []
unfolding net same passing reads_at block_rule
of_product = refl

of_absolute : read_by net 4 ≡ record { 0 = 1 } ∷ []
unfolding net same passing reads_at block_rule
of_absolute = refl
