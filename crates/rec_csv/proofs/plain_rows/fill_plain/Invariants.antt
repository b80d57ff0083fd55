-- The fields up to this slot are read, and the others are left.
use Rattle.std.proofs.Common.{◌≡◌, ◌≤◌, true, [], length, drop, MatchOption}
use Rattle.std.specs.List.{list_all}
use Rattle.text_words.specs.Lines.{pieces}
use Rattle.rec_csv.specs.Fields.{is_comma, is_plain_byte}
use Rattle.rec_csv.proofs.WalkFacts.{Known}
use Rattle.rec_csv.proofs.plain_rows.fill_plain.Given as goal

abbrev pub invariant-slots : goal.invariant-slots
invariant-slots l = record {
  within : l.slot-index ≤ length (pieces is_comma l.line);
  rest : MatchOption l.left (drop l.slot-index (pieces is_comma l.line) ≡ []) (λ bytes. drop l.slot-index (pieces is_comma l.line) ≡ pieces is_comma bytes.now);
  plain : MatchOption l.left (list_all is_plain_byte l.line ≡ true) (λ bytes. list_all is_plain_byte l.line ≡ list_all is_plain_byte bytes.now);
  known : Known l.columns (pieces is_comma l.line) l.values l.verdict l.slot-index;
}
