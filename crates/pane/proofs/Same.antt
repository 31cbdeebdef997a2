-- Equality of base panes: what is read back is equal to what was written, equal panes have equal bytes, and two that are equal to a third are equal.
use mathlib.Core.Path.{◌≡◌, refl, sym, ◌∙◌}
use Rattle.core_read.specs.declared.cursor.ByteOrder.{ByteOrder}
use Rattle.core_read.proofs.Back.{string_text}
use Rattle.pane_read.specs.Pane.{text24, text8, encode_head, encode_transform, encode_pane}
use Rattle.pane.specs.Same.{SamePane}
use Rattle.pane_read.specs.declared.Pane.{Pane}
use Rattle.pane.proofs.Back.{read_back}

pub read_same : (b : Pane) → SamePane (read_back b) b
unfolding read_back
read_same b = record {
  flags = refl;
  position = refl;
  alpha = refl;
  ex = refl;
  name = string_text 24 (text24 b.pane_name);
  user = string_text 8 (text8 b.user_name);
  translation = refl;
  rotation = refl;
  scale = refl;
  size = refl;
}

pub encode_same : (order : ByteOrder) (a b : Pane) → SamePane a b → encode_pane order a ≡ encode_pane order b
unfolding encode_pane encode_head encode_transform
encode_same order a b h =
    rw (h.flags, h.position, h.alpha, h.ex, h.name, h.user, h.translation, h.rotation, h.scale, h.size)

pub same_both : (x a b : Pane) → SamePane x a → SamePane x b → SamePane a b
same_both x a b h k = record {
  flags = sym h.flags ∙ k.flags;
  position = sym h.position ∙ k.position;
  alpha = sym h.alpha ∙ k.alpha;
  ex = sym h.ex ∙ k.ex;
  name = sym h.name ∙ k.name;
  user = sym h.user ∙ k.user;
  translation = sym h.translation ∙ k.translation;
  rotation = sym h.rotation ∙ k.rotation;
  scale = sym h.scale ∙ k.scale;
  size = sym h.size ∙ k.size;
}
