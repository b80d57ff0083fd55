use Rattle.std.proofs.Common.{[], ◌∷◌, FitsSigned, w64}
use Rattle.std.proofs.lemmas.Int.{to_z-of_z}
use Rattle.std.specs.Fmt.{signed_decimal}
use Rattle.std.specs.Prelude.{codes}
use Rattle.net_text.specs.Printing.{kind_word}
use Rattle.net_text.proofs.PrintedPieces.{words_joined}
use Rattle.net_text.proofs.printing.push_input.Goals as goal

pub returns : goal.returns
returns c =
    let lo : FitsSigned w64 c.args.lo = c.ranges.lo in
    let hi : FitsSigned w64 c.args.hi = c.ranges.hi in
    let name = c.args.name.now in
    let kind = kind_word c.args.axes.now c.args.kind in
    words_joined c.push_number-2.result c.args.text.now.items c.push_front.new.text.items c.push_number.new.text.items c.push_number-2.new.text.items (codes "in") (signed_decimal c.args.lo) (signed_decimal c.args.hi) (name ∷ kind ∷ []) c.in_ok-push_front.ensures (simp to_z-of_z at c.in_ok-push_number.ensures) (simp to_z-of_z at c.push_number-2.ensures)
