-- The records that reads of bytes give: as the types of the code say, and blank in what the other kinds have.
use mathlib.Core.Path.{refl}
use Prim.Native.Nat.{ℕ}
use native.Mathlib.Omega.{arith}
use mathlib.Core.List.{List}
use lib.IntN.{pos}
use mir.Syntax.{w16}
use mir.Val.{SFits}
use borrow.Author.Rules.{sfits_of}
use Rattle.core_read.specs.declared.cursor.ByteOrder.{ByteOrder}
use Rattle.core_checks.specs.Checks.{unless_refused, Extent}
use Rattle.flags.specs.Fields.{flag_ex_of}
use Rattle.ui2d.specs.Typed.{TypedColor}
use Rattle.pane_read.specs.Pane.{blank_pane}
use Rattle.picture_fields.specs.Picture.{blank_picture}
use Rattle.picture_fields.specs.Typed.{TypedPicture}
use Rattle.text_box_read.specs.TextBox.{blank_text_box}
use Rattle.window_read.specs.Window.{blank_window}
use Rattle.alignment_fields.specs.Alignment.{blank_alignment, TypedAlignment}
use Rattle.pane.specs.Body.{pane_measured, pane_given, pane_read, pane_parsed}
use Rattle.picture.specs.Body.{picture_measured, picture_given, picture_read, picture_parsed}
use Rattle.text_box.specs.Body.{text_box_measured, text_box_given, text_box_read}
use Rattle.window.specs.Body.{window_measured, window_given, window_read, window_parsed}
use Rattle.alignment.specs.Body.{alignment_measured, alignment_given, alignment_read, alignment_parsed}
use Rattle.strip_records.specs.Typed.{Below}
use Rattle.strip_records.specs.Whole.{Lists, blank_record}
use Rattle.strip_records.specs.declared.kind.Kind.{Kind}
use Rattle.strip_records.specs.declared.kind.Kind.TheVariants.{Pan1, Pic1, Txt1, Wnd1, Ali1}
use Rattle.strip_records.specs.declared.record.Record.{Record}
use Rattle.strip_kinds.specs.Body.{body_read, body_parsed}
use Rattle.flat_records.specs.Typed.{TypedWords, OthersBlank}
use Rattle.exports_read.proofs.Bytes.{below_zeros}
use Rattle.exports_read.proofs.Fields.{TypedBase, TypedTexts, TypedFrames, base_typed, picture_typed, text_box_typed, window_typed, alignment_typed}
use Rattle.core_read.specs.Taken.{Place}
use Rattle.std.specs.Prelude.{Err, None, Ok}

pub record Given (r : Record) : Type 0 where
  pub typed : TypedWords r
  pub others : OthersBlank r.kind r

-- ---- what is blank

blank_base : TypedBase blank_pane
unfolding blank_pane flag_ex_of
blank_base = record {
  pane = record {
    alpha = omega arith;
    reserve = omega arith;
    name = refl;
    user = refl;
    translation = record { x = omega arith; y = omega arith; z = omega arith };
    rotation = record { x = omega arith; y = omega arith; z = omega arith };
    scale = record { x = omega arith; y = omega arith };
    size = record { x = omega arith; y = omega arith };
  };
  name = below_zeros 24;
  user = below_zeros 8;
}

blank_color : TypedColor (record { r = 0; g = 0; b = 0; a = 0 })
blank_color = record { r = omega arith; g = omega arith; b = omega arith; a = omega arith }

blank_picture_lem : TypedPicture blank_picture
unfolding blank_picture
blank_picture_lem = record {
  colors = record { four = refl; top_left = blank_color; top_right = blank_color; bottom_left = blank_color; bottom_right = blank_color };
  material = omega arith;
  shape = tt;
  count = omega arith;
}

blank_texts : TypedTexts blank_text_box
unfolding blank_text_box
blank_texts = record {
  own = record {
    buffer = omega arith;
    long = omega arith;
    material = omega arith;
    font = omega arith;
    tilt = omega arith;
    top = blank_color;
    bottom = blank_color;
    measure = record { x = omega arith; y = omega arith };
    character = omega arith;
    line = omega arith;
    shadow_translation = record { x = omega arith; y = omega arith };
    shadow_size = record { x = omega arith; y = omega arith };
    shadow_top = blank_color;
    shadow_bottom = blank_color;
    shadow_tilt = omega arith;
  };
  lines = tt;
}

blank_side : SFits w16 (pos 0)
blank_side = sfits_of (omega arith)

blank_frames : TypedFrames blank_window
unfolding blank_window
blank_frames = record {
  own = record {
    inflation_left = blank_side;
    inflation_right = blank_side;
    inflation_top = blank_side;
    inflation_bottom = blank_side;
    frame_size_left = blank_side;
    frame_size_right = blank_side;
    frame_size_top = blank_side;
    frame_size_bottom = blank_side;
    colors = record { four = refl; top_left = blank_color; top_right = blank_color; bottom_left = blank_color; bottom_right = blank_color };
    material = omega arith;
  };
  frames = omega arith;
  quads = omega arith;
}

blank_alignment_lem : TypedAlignment blank_alignment
unfolding blank_alignment
blank_alignment_lem = record { direction = omega arith; margin = omega arith }

-- ---- a record of its parts

whole_typed : (r : Record) → TypedBase r.base → TypedPicture r.picture → TypedTexts r.text_box → TypedFrames r.window → TypedAlignment r.alignment → TypedWords r
whole_typed r b p t w a = record {
  fields = record { base = b.pane; picture = p; text_box = t.own; window = w.own; alignment = a };
  name = b.name;
  user = b.user;
  lines = t.lines;
  frames = w.frames;
  quads = w.quads;
}

pub blank_given : Given blank_record
unfolding blank_record
blank_given = record { typed = whole_typed _ blank_base blank_picture_lem blank_texts blank_frames blank_alignment_lem; others = (refl, refl, refl, refl) }

-- ---- what was read, or the blank one where the run was refused

unless : {A : Type 0} (P : A → Type 0) (q : Place) (x y : A) → P x → P y → P (unless_refused q x y)
unfolding unless_refused
unless P (Ok c) x y h k = k
unless P (Err why) x y h k = h

module _ (order : ByteOrder) (s : List ℕ) (h : Below 256 s) (p : Place) (body : ℕ) (x : Extent) where
  pane_read_lem : TypedBase (pane_read order s p body x).base
  unfolding pane_read pane_given pane_measured
  pane_read_lem = unless TypedBase _ _ _ blank_base (base_typed order s h p)

  picture_base : TypedBase (picture_read order s p body x).base
  unfolding picture_read picture_given picture_measured
  picture_base = unless TypedBase _ _ _ blank_base (base_typed order s h p)

  picture_own : TypedPicture (picture_read order s p body x).own
  unfolding picture_read picture_given picture_measured
  picture_own = unless TypedPicture _ _ _ blank_picture_lem (picture_typed order s h _)

  text_box_base : TypedBase (text_box_read order s p body x).base
  unfolding text_box_read text_box_given text_box_measured
  text_box_base = unless TypedBase _ _ _ blank_base (base_typed order s h p)

  text_box_own : TypedTexts (text_box_read order s p body x).own
  unfolding text_box_read text_box_given text_box_measured
  text_box_own = unless TypedTexts _ _ _ blank_texts (text_box_typed order s h _ body)

  window_base : TypedBase (window_read order s p body x).base
  unfolding window_read window_given window_measured
  window_base = unless TypedBase _ _ _ blank_base (base_typed order s h p)

  window_own : TypedFrames (window_read order s p body x).own
  unfolding window_read window_given window_measured
  window_own = unless TypedFrames _ _ _ blank_frames (window_typed order s h _ body)

  alignment_base : TypedBase (alignment_read order s p body x).base
  unfolding alignment_read alignment_given alignment_measured
  alignment_base = unless TypedBase _ _ _ blank_base (base_typed order s h p)

  alignment_own : TypedAlignment (alignment_read order s p body x).own
  unfolding alignment_read alignment_given alignment_measured
  alignment_own = unless TypedAlignment _ _ _ blank_alignment_lem (alignment_typed order s h _)

-- ---- THE BODY of a kind, from a place of a run and as a call

pub body_given : (order : ByteOrder) (k : Kind) (s : List ℕ) (p : Place) (body : ℕ) (x : Extent) → Below 256 s → Given (body_read order k s p body x).«record»
unfolding body_read
body_given order Pan1 s p body x h = record { typed = whole_typed _ (pane_read_lem order s h p body x) blank_picture_lem blank_texts blank_frames blank_alignment_lem; others = (refl, refl, refl, refl) }
body_given order Pic1 s p body x h = record { typed = whole_typed _ (picture_base order s h p body x) (picture_own order s h p body x) blank_texts blank_frames blank_alignment_lem; others = (refl, refl, refl) }
body_given order Txt1 s p body x h = record { typed = whole_typed _ (text_box_base order s h p body x) blank_picture_lem (text_box_own order s h p body x) blank_frames blank_alignment_lem; others = (refl, refl, refl) }
body_given order Wnd1 s p body x h = record { typed = whole_typed _ (window_base order s h p body x) blank_picture_lem blank_texts (window_own order s h p body x) blank_alignment_lem; others = (refl, refl, refl) }
body_given order Ali1 s p body x h = record { typed = whole_typed _ (alignment_base order s h p body x) blank_picture_lem blank_texts blank_frames (alignment_own order s h p body x); others = (refl, refl, refl) }

pub parsed_given : (order : ByteOrder) (k : Kind) (s : List ℕ) (body : ℕ) (l : Lists) → Below 256 s → Given (body_parsed order k s body l).«record»
unfolding body_parsed body_read pane_parsed picture_parsed window_parsed alignment_parsed
parsed_given order Pan1 s body l h = body_given order Pan1 s _ body None h
parsed_given order Pic1 s body l h = body_given order Pic1 s _ body None h
parsed_given order Txt1 s body l h = body_given order Txt1 s _ body None h
parsed_given order Wnd1 s body l h = body_given order Wnd1 s _ body None h
parsed_given order Ali1 s body l h = body_given order Ali1 s _ body None h
