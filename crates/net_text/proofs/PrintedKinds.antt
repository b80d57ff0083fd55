-- The type word of a kind is a word, and is read as that kind.
use Rattle.std.proofs.Common.{◌≡◌, ℕ, zero, suc, ◌≤◌, ◌<◌, Bool, true, false, not, ◌||◌, List, [], ◌∷◌, ◌++◌, codes, leb-true, pos, Some, is_some, option_map, refl, ap, ◌∙◌, arith}
use Rattle.std.specs.Fmt.{digits, signed_decimal}
use Rattle.std.specs.List.{list_all}
use Rattle.text_words.specs.Names.{is_name}
use Rattle.text_words.proofs.PrintedWords.{is_printed, is_word, is_word-append, is_word-name, printed-word, is_word-signed_decimal}
use Rattle.fx_core.specs.declared.word_type.Ty.{Ty}
use Rattle.fx_core.specs.declared.word_type.Ty.TheVariants.{U8, S8, U16, S16, U32, S32}
use Rattle.fx_routines.specs.Names.{type_word}
use Rattle.net_model.specs.declared.wires.Kind.{Kind}
use Rattle.net_model.specs.declared.wires.Kind.TheVariants.{Num, Truth, Position}
use Rattle.net_model.specs.Wires.{NamedAxis, NetData}
use Rattle.net_model.specs.Validity.{is_good_kind, is_plain}
use Rattle.net_text.specs.Names.{axis_place}
use Rattle.net_text.specs.TypeWords.{point_of_word, number_kind_of, kind_of, is_position}
use Rattle.net_text.specs.Forms.{axis_passes, is_type, kind_named}
use Rattle.net_text.specs.Printing.{point_word, kind_word, name_of_axis}

-- ---- words

pub is_word-type_word : (ty : Ty) → is_word (type_word ty) ≡ true
is_word-type_word U8 = refl
is_word-type_word S8 = refl
is_word-type_word U16 = refl
is_word-type_word S16 = refl
is_word-type_word U32 = refl
is_word-type_word S32 = refl

printed-point_word : (point : ℕ) → point ≤ 15 → list_all is_printed (point_word point) ≡ true
printed-point_word zero small = refl
printed-point_word (suc point) small = printed-word (signed_decimal (pos (suc point))) (is_word-signed_decimal (pos (suc point)) (omega arith))

-- the axis of a position has a name
abbrev pub HasName : List NamedAxis → Kind → Type 0
HasName axes (Num ty point) = Unit {0}
HasName axes Truth = Unit {0}
HasName axes (Position axis) = is_name (name_of_axis axes axis) ≡ true

pub is_word-kind_word : (axes : List NamedAxis) (kind : Kind) → is_good_kind kind ≡ true → HasName axes kind → is_word (kind_word axes kind) ≡ true
is_word-kind_word axes (Num ty point) good named = is_word-append (type_word ty) (point_word point) (is_word-type_word ty) (printed-point_word point (leb-true _ _ good))
is_word-kind_word axes Truth good named = refl
is_word-kind_word axes (Position axis) good named =
    is_word-append (codes "dp:") (name_of_axis axes axis) refl (printed-word (name_of_axis axes axis) (is_word-name (name_of_axis axes axis) named))

-- ---- read again

-- a binary point from 1 to 15 is read behind its mark
point_of_word-digits : (point : ℕ) → point < 15 → point_of_word (46 ∷ signed_decimal (pos (suc point))) ≡ Some (suc point)
unfolding point_of_word digits
point_of_word-digits zero small = refl
point_of_word-digits (suc zero) small = refl
point_of_word-digits (suc (suc zero)) small = refl
point_of_word-digits (suc (suc (suc zero))) small = refl
point_of_word-digits (suc (suc (suc (suc zero)))) small = refl
point_of_word-digits (suc (suc (suc (suc (suc zero))))) small = refl
point_of_word-digits (suc (suc (suc (suc (suc (suc zero)))))) small = refl
point_of_word-digits (suc (suc (suc (suc (suc (suc (suc zero))))))) small = refl
point_of_word-digits (suc (suc (suc (suc (suc (suc (suc (suc zero)))))))) small = refl
point_of_word-digits (suc (suc (suc (suc (suc (suc (suc (suc (suc zero))))))))) small = refl
point_of_word-digits (suc (suc (suc (suc (suc (suc (suc (suc (suc (suc zero)))))))))) small = refl
point_of_word-digits (suc (suc (suc (suc (suc (suc (suc (suc (suc (suc (suc zero))))))))))) small = refl
point_of_word-digits (suc (suc (suc (suc (suc (suc (suc (suc (suc (suc (suc (suc zero)))))))))))) small = refl
point_of_word-digits (suc (suc (suc (suc (suc (suc (suc (suc (suc (suc (suc (suc (suc zero))))))))))))) small = refl
point_of_word-digits (suc (suc (suc (suc (suc (suc (suc (suc (suc (suc (suc (suc (suc (suc zero)))))))))))))) small = refl
point_of_word-digits (suc (suc (suc (suc (suc (suc (suc (suc (suc (suc (suc (suc (suc (suc (suc point))))))))))))))) small = absurd (omega arith)

-- a type with a mark behind it is read as the type, at the point that stands there
kind_of-marked : (ty : Ty) (rest : List ℕ) → kind_of (type_word ty ++ (46 ∷ rest)) ≡ option_map (λ point. Num ty point) (point_of_word (46 ∷ rest))
unfolding kind_of number_kind_of
kind_of-marked U8 rest = refl
kind_of-marked S8 rest = refl
kind_of-marked U16 rest = refl
kind_of-marked S16 rest = refl
kind_of-marked U32 rest = refl
kind_of-marked S32 rest = refl

-- without one it is at the point 0
kind_of-plain : (ty : Ty) → kind_of (type_word ty ++ []) ≡ Some (Num ty 0)
unfolding kind_of number_kind_of point_of_word
kind_of-plain U8 = refl
kind_of-plain S8 = refl
kind_of-plain U16 = refl
kind_of-plain S16 = refl
kind_of-plain U32 = refl
kind_of-plain S32 = refl

-- a kind of numbers or truth values is read again
pub kind_of-kind_word : (axes : List NamedAxis) (kind : Kind) → is_plain kind ≡ true → is_good_kind kind ≡ true → kind_of (kind_word axes kind) ≡ Some kind
unfolding kind_of
kind_of-kind_word axes (Num ty zero) plain good = kind_of-plain ty
kind_of-kind_word axes (Num ty (suc point)) plain good =
    let small = leb-true (suc point) 15 good in
    kind_of-marked ty (signed_decimal (pos (suc point))) ∙ ap (option_map (λ p. Num ty p)) (point_of_word-digits point (omega arith))
kind_of-kind_word axes Truth plain good = refl
kind_of-kind_word axes (Position axis) plain good = absurd (cc)

-- and it is no position
is_position-plain : (axes : List NamedAxis) (kind : Kind) → is_plain kind ≡ true → is_position (kind_word axes kind) ≡ false
unfolding is_position
is_position-plain axes (Num U8 point) plain = refl
is_position-plain axes (Num S8 point) plain = refl
is_position-plain axes (Num U16 point) plain = refl
is_position-plain axes (Num S16 point) plain = refl
is_position-plain axes (Num U32 point) plain = refl
is_position-plain axes (Num S32 point) plain = refl
is_position-plain axes Truth plain = refl
is_position-plain axes (Position axis) plain = absurd (cc)

-- the word of a position is one
is_position-dp : (name : List ℕ) → is_name name ≡ true → is_position (codes "dp:" ++ name) ≡ true
unfolding is_position
is_position-dp name named = named

-- the axis of a position has a name, by which it is found
abbrev pub IsFound : List NamedAxis → Kind → Type 0
IsFound axes (Num ty point) = Unit {0}
IsFound axes Truth = Unit {0}
IsFound axes (Position axis) = (is_name (name_of_axis axes axis) ≡ true) × (axis_place axes (name_of_axis axes axis) ≡ Some axis)

pub has_name : (axes : List NamedAxis) (kind : Kind) → IsFound axes kind → HasName axes kind
has_name axes (Num ty point) found = tt
has_name axes Truth found = tt
has_name axes (Position axis) found = found.0

-- each kind is named again
pub kind_named-kind_word : (net : NetData) (kind : Kind) → is_good_kind kind ≡ true → IsFound net.axes kind → kind_named net (kind_word net.axes kind) ≡ Some kind
unfolding kind_named
kind_named-kind_word net (Num ty point) good found = rw (is_position-plain net.axes (Num ty point) refl) (kind_of-kind_word net.axes (Num ty point) refl good)
kind_named-kind_word net Truth good found = rw (is_position-plain net.axes Truth refl) (kind_of-kind_word net.axes Truth refl good)
kind_named-kind_word net (Position axis) good found = rw (is_position-dp (name_of_axis net.axes axis) found.0, found.1) refl

or_second : (a : Bool) {b : Bool} → b ≡ true → (a || b) ≡ true
or_second true h = refl
or_second false h = h

-- it is a type word
pub is_type-kind_word : (axes : List NamedAxis) (kind : Kind) → is_good_kind kind ≡ true → HasName axes kind → is_type (kind_word axes kind) ≡ true
is_type-kind_word axes (Num ty point) good named = ap (λ k. is_some k || is_position (kind_word axes (Num ty point))) (kind_of-kind_word axes (Num ty point) refl good)
is_type-kind_word axes Truth good named = ap (λ k. is_some k || is_position (kind_word axes Truth)) (kind_of-kind_word axes Truth refl good)
is_type-kind_word axes (Position axis) good named = or_second (is_some (kind_of (kind_word axes (Position axis)))) (is_position-dp (name_of_axis axes axis) named)

-- and its axis passes a test that the names of all such axes pass
pub axis_passes-kind_word : (test : List ℕ → Bool) (axes : List NamedAxis) (kind : Kind) → ((axis : ℕ) → kind ≡ Position axis → test (name_of_axis axes axis) ≡ true) → axis_passes test (kind_word axes kind) ≡ true
axis_passes-kind_word test axes (Num ty point) passes = rw (is_position-plain axes (Num ty point) refl) refl
axis_passes-kind_word test axes Truth passes = rw (is_position-plain axes Truth refl) refl
axis_passes-kind_word test axes (Position axis) passes = or_second (not (is_position (kind_word axes (Position axis)))) (passes axis refl)
