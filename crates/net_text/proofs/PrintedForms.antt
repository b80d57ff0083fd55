-- The words of a printed line are read as what it was printed from.
use Rattle.std.proofs.Common.{◌≡◌, ℕ, true, false, ◌&&◌, nat_lt, int_le, List, [], ◌∷◌, length, codes, ℤ, Some, Ok}
use Rattle.text_words.specs.Names.{is_name}
use Rattle.text_words.specs.Numbers.{number_of}
use Rattle.net_model.specs.declared.wires.WireNo.{WireNo}
use Rattle.net_model.specs.declared.wires.Kind.{Kind}
use Rattle.net_model.specs.declared.wires.Item.TheVariants.{Input, Const, Delay}
use Rattle.net_model.specs.Wires.{NetData, place_of}
use Rattle.net_model.specs.Validity.{kind_holds, most_wires}
use Rattle.net_text.specs.TypeWords.{kind_of}
use Rattle.net_text.specs.Names.{number_named}
use Rattle.net_text.specs.Forms.{is_above, is_known, is_type, axis_passes, kind_named, fresh, input_of, const_of, in_line, const_line, delay_of, source_named, delay_line, is_output, wire_named, out_line}

-- a name that stands nowhere above, and room for its wire
pub record IsNew (net : NetData) (name : List ℕ) : Type 0 where
  pub named : is_name name ≡ true
  pub fresh : is_above net name ≡ false
  pub room : nat_lt (length net.wires) most_wires ≡ true

-- ---- inputs, constants and delays

pub in_line-reads : (net : NetData) (name kw low high : List ℕ) (kind : Kind) (lo hi : ℤ) → IsNew net name → kind_of kw ≡ Some kind → number_of low ≡ Some lo → number_of high ≡ Some hi
    → (kind_holds net.axes kind lo && kind_holds net.axes kind hi && int_le lo hi) ≡ true → in_line net (codes "in" ∷ name ∷ kw ∷ low ∷ high ∷ []) ≡ Ok (record { kind = kind; item = Input lo hi })
unfolding in_line fresh input_of
in_line-reads net name kw low high kind lo hi new kind_is low_is high_is holds = rw (new.named, new.fresh, kind_is, low_is, high_is, holds, new.room)

pub const_line-reads : (net : NetData) (name kw word : List ℕ) (kind : Kind) (value : ℤ) → IsNew net name → kind_of kw ≡ Some kind → number_of word ≡ Some value
    → kind_holds net.axes kind value ≡ true → const_line net (codes "const" ∷ name ∷ kw ∷ word ∷ []) ≡ Ok (record { kind = kind; item = Const value })
unfolding const_line fresh const_of
const_line-reads net name kw word kind value new kind_is value_is holds = rw (new.named, new.fresh, kind_is, value_is, holds, new.room)

-- what the words of a delay's type and source pass
pub record IsDelayed (lines : List (List ℕ)) (net : NetData) (kw from : List ℕ) (kind : Kind) (source : WireNo) : Type 0 where
  pub type : is_type kw ≡ true
  pub known : axis_passes (is_known lines net) kw ≡ true
  pub above : axis_passes (is_above net) kw ≡ true
  pub named : kind_named net kw ≡ Some kind
  pub defined : is_known lines net from ≡ true
  pub numbered : number_named lines from ≡ Some source.0

pub delay_line-reads : (lines : List (List ℕ)) (net : NetData) (name kw word from : List ℕ) (kind : Kind) (init : ℤ) (source : WireNo) → IsNew net name → IsDelayed lines net kw from kind source → number_of word ≡ Some init
    → kind_holds net.axes kind init ≡ true → delay_line lines net (codes "delay" ∷ name ∷ kw ∷ word ∷ codes "=" ∷ from ∷ []) ≡ Ok (record { kind = kind; item = Delay init source })
unfolding delay_line fresh delay_of source_named
delay_line-reads lines net name kw word from kind init source new is init_is holds =
    rw (new.named, new.fresh, is.type, is.known, is.defined, is.above, is.named, is.numbered, init_is, holds, new.room)

-- ---- outputs

pub out_line-reads : (lines : List (List ℕ)) (net : NetData) (name : List ℕ) (o : WireNo) → is_name name ≡ true → place_of net.wires name ≡ Some o.0
    → is_output net.outs (Some o.0) ≡ false → out_line lines net (codes "out" ∷ name ∷ []) ≡ Ok o
unfolding out_line is_known wire_named
out_line-reads lines net name o named place new = rw (named, place, new)
