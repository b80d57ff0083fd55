use Rattle.std.proofs.Common.{◌∙◌, sym, arith}
use Rattle.cert_rules.proofs.ArgumentSearch.{above_parts, below_parts, number_fits, search-counted, search-end, search-found, search-skipped}
use Rattle.cert_rules.proofs.arguments.argument.Goals as goal
use Rattle.cert_rules.proofs.arguments.argument.Goals.{then-reads_at+else-left-eq0, else-reads_at}

pub overflow_cast-candidate : goal.overflow_cast-candidate
overflow_cast-candidate c =
    number_fits c.args.net.now c.loop-k.k _ c.parts-k-end.ensures.valid c.parts-k-end.ensures.parts (omega arith)

pub returns-then-left-eq0 : goal.returns-then-left-eq0
returns-then-left-eq0 c =
    search-found _ c.loop-k.k _ c.loop-k.left _ (below_parts _ c.loop-k.k _ c.parts-k-end.ensures.parts (omega arith)) (sym c.reads_at.ensures ∙ c.if-reads_at.true) (omega arith) c.loop-k.invariant

pub loop-k-preserved : goal.loop-k-preserved
loop-k-preserved c = elim c.if-reads_at.branch [
  | then-reads_at+else-left-eq0 w ↦ rw w.left-is (search-counted _ c.loop-k.k _ c.loop-k.left _ (below_parts _ c.loop-k.k _ c.parts-k-end.ensures.parts (omega arith)) (sym c.reads_at.ensures ∙ w.if-reads_at.true) (omega arith) c.loop-k.invariant)
  | else-reads_at w ↦ rw w.left-is (search-skipped _ c.loop-k.k _ c.loop-k.left _ (below_parts _ c.loop-k.k _ c.parts-k-end.ensures.parts (omega arith)) (sym c.reads_at.ensures ∙ w.if-reads_at.false) c.loop-k.invariant)
]

pub returns : goal.returns
returns c =
    search-end _ c.loop-k.k _ c.loop-k.left _ (above_parts _ c.loop-k.k _ c.parts-k-end.ensures.parts (omega arith)) c.loop-k.invariant
