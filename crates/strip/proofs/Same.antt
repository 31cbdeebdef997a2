-- Equality of records with their lists and labels: equal ones have equal sections, and two that are equal to a third are equal.
use mathlib.Core.Path.{◌≡◌, refl, sym, ap, ◌∙◌, subst}
use mathlib.Core.List.{List, ◌++◌}
use Prim.Native.Nat.{ℕ, ◌+◌}
use lib.ListN.{replicate}
use Rattle.core_read.specs.Bytes.{bytes_of, padding}
use Rattle.core_read.specs.declared.cursor.ByteOrder.{ByteOrder}
use Rattle.core_read.specs.declared.cursor.ByteOrder.TheVariants.{Little}
use Rattle.pane.proofs.Same as pane
use Rattle.picture.specs.Body as picture-body
use Rattle.picture_fields.proofs.Same as picture
use Rattle.text_box.specs.Body as text-box-body
use Rattle.text_box.proofs.Same as text-box
use Rattle.window.specs.Body as window-body
use Rattle.window.proofs.Same as window
use Rattle.alignment.specs.Body as alignment
use Rattle.strip_records.specs.Kinds.{letter_bytes}
use Rattle.strip_records.specs.Whole.{Whole}
use Rattle.strip.specs.Same.{Same, SameOwn, box_of}
use Rattle.strip_write.specs.Write.{body_length, encode_body, section_size, section}
use Rattle.strip_records.specs.declared.kind.Kind.{Kind}
use Rattle.strip_records.specs.declared.kind.Kind.TheVariants.{Pan1, Pic1, Txt1, Wnd1, Ali1}

own_both : (k : Kind) (x a b : Whole) → SameOwn k x a → SameOwn k x b → SameOwn k a b
unfolding SameOwn
own_both Pan1 x a b h i = tt
own_both Pic1 x a b h i = picture.same_both _ _ _ _ _ _ h i
own_both Txt1 x a b h i = text-box.same_both (box_of x) (box_of a) (box_of b) h i
own_both Wnd1 x a b h i = window.same_both _ _ _ _ _ _ _ _ _ h i
own_both Ali1 x a b h i = sym h ∙ i

pub same_both : (x a b : Whole) → Same x a → Same x b → Same a b
same_both x a b h i = record {
  kind = sym h.kind ∙ i.kind;
  base = pane.same_both x.pane.base a.pane.base b.pane.base h.base i.base;
  own = subst (λ (k : Kind). SameOwn k a b) h.kind (own_both x.pane.kind x a b h.own i.own);
}

-- equal ones have the same bytes
body_same : (k : Kind) (order : ByteOrder) (body : ℕ) (a b : Whole) → Same a b → SameOwn k a b → encode_body k order body a ≡ encode_body k order body b
unfolding SameOwn encode_body picture-body.encode_body text-box-body.encode_body window-body.encode_body alignment.encode_body
body_same Pan1 order body a b h i = pane.encode_same order a.pane.base b.pane.base h.base
body_same Pic1 order body a b h i = rw (pane.encode_same order a.pane.base b.pane.base h.base, picture.encode_same _ _ _ _ i order)
body_same Txt1 order body a b h i =
    rw (pane.encode_same order a.pane.base b.pane.base h.base, text-box.encode_same order (box_of a) (box_of b) i body)
body_same Wnd1 order body a b h i = rw (pane.encode_same order a.pane.base b.pane.base h.base, window.encode_same _ _ _ _ _ _ i order body)
body_same Ali1 order body a b h i = rw (pane.encode_same order a.pane.base b.pane.base h.base, i)

length_same : (k : Kind) (body : ℕ) (a b : Whole) → SameOwn k a b → body_length k body a ≡ body_length k body b
unfolding SameOwn picture-body.body_length window-body.body_length
length_same Pan1 body a b i = refl
length_same Pic1 body a b i = rw (picture.length_same _ _ _ _ i)
length_same Txt1 body a b i = rw (text-box.length_same Little (box_of a) (box_of b) i body)
length_same Wnd1 body a b i = rw (window.length_same _ _ _ _ _ _ i body)
length_same Ali1 body a b i = refl

-- the section with the kind apart
abbrev section_with : Kind → ByteOrder → ℕ → Whole → List ℕ
section_with k order p w =
    letter_bytes k
    ++ (bytes_of order 4 (section_size (body_length k (p + 8) w)) ++ (encode_body k order (p + 8) w ++ replicate (padding (body_length k (p + 8) w)) 0))

with_same : (k : Kind) (order : ByteOrder) (p : ℕ) (a b : Whole) → Same a b → SameOwn k a b → section_with k order p a ≡ section_with k order p b
with_same k order p a b h i = rw (length_same k (p + 8) a b i, body_same k order (p + 8) a b h i)

pub section_same : (order : ByteOrder) (p : ℕ) (a b : Whole) → Same a b → section order p a ≡ section order p b
unfolding section
section_same order p a b h = with_same a.pane.kind order p a b h h.own ∙ ap (λ (k : Kind). section_with k order p b) h.kind
