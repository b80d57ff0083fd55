use Rattle.std.proofs.Common.{rules, FitsSigned, w64}
use Rattle.std.proofs.lemmas.Int.{to_z-of_z}
use Rattle.cert_checker.proofs.PrintedEntries.{entry_joined}
use Rattle.cert_checker.proofs.printing.push_entry.Goals as goal

pub returns : goal.returns
returns c =
    let b = c.args.entry in
    let lo : FitsSigned w64 b.lo = search rules in
    let hi : FitsSigned w64 b.hi = search rules in
    let err : FitsSigned w64 b.err = search rules in
    entry_joined c.args.net.now c.args.k b _ _ _ _ _ _ _ c.in_ok-extend_from_slice.ensures.items c.in_ok-push_part_name.ensures (simp to_z-of_z at c.in_ok-push_number.ensures) (simp to_z-of_z at c.in_ok-push_number-2.ensures) (simp to_z-of_z at c.in_ok-push_number-3.ensures) c.in_ok-push.ensures.items
