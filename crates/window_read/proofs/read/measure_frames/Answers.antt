use mathlib.Core.Path.{sym, ap, ◌∙◌}
use Rattle.std.proofs.lemmas.Result.{err_from_is_err_and}
use Rattle.std.specs.Prelude.{Ok}
use Rattle.window_read.proofs.Run.{frames_none}
use Rattle.window_read.proofs.Measuring.{left_first, offset_of, offset_err, seek_of, seek_err, frame_of, frame_err, offset_there, offset_next, seek_stops, frame_stops, frame_passed}
use Rattle.window_read.proofs.read.measure_frames.Goals as goal

pub returns-in_err-offset : goal.returns-in_err-offset
returns-in_err-offset c =
    let s = c.args.r.now.source in
    let i = c.loop.invariant in
    absurd (offset_there s.order s.«data».now c.args.from c.args.table.pos c.args.n c.loop.counter c.loop-test.true c.requires.1 c.loop.offsets.cursor i.at _
    (offset_err s c.loop.offsets c.number.new.self i.offsets _ c.in_err-offset.ensures))

pub returns-in_err-seek : goal.returns-in_err-seek
returns-in_err-seek c =
    let s = c.args.r.now.source in
    let i = c.loop.invariant in
    let (y, p, q) = err_from_is_err_and c.from_residual-in_err-seek.result c.from_residual-in_err-seek.ensures.1 in
    let n = offset_of s c.loop.offsets c.number.new.self i.offsets _ c.in_ok-offset.ensures in
    let k = seek_err s c.loop.r c.seek.new.self i.source _ _ c.in_err-seek.ensures in
    let stops = seek_stops s.order s.«data».now c.args.from c.args.table.pos c.args.n c.loop.counter c.loop-test.true c.requires.1 c.loop.offsets.cursor i.at _ _ n.1 c.loop.r.cursor _ k in
    rw (p, q) (ap (λ t. t.then) (sym (left_first s.order s.«data».now c.args.from c.args.n c.args.table c.requires.1 _)) ∙ sym i.run ∙ stops)

pub returns-in_err-take : goal.returns-in_err-take
returns-in_err-take c =
    let s = c.args.r.now.source in
    let i = c.loop.invariant in
    let (y, p, q) = err_from_is_err_and c.from_residual-in_err-take.result c.from_residual-in_err-take.ensures.1 in
    let n = offset_of s c.loop.offsets c.number.new.self i.offsets _ c.in_ok-offset.ensures in
    let k = seek_of s c.loop.r c.seek.new.self i.source _ c.in_ok-seek.ensures in
    let f = frame_err s c.seek.new.self c.take.new.self k.0 _ c.in_err-take.ensures in
    let stops = frame_stops s.order s.«data».now c.args.from c.args.table.pos c.args.n c.loop.counter c.loop-test.true c.requires.1 c.loop.offsets.cursor i.at _ _ n.1 c.loop.r.cursor _ _ k.1 f in
    rw (p, q) (ap (λ t. t.then) (sym (left_first s.order s.«data».now c.args.from c.args.n c.args.table c.requires.1 _)) ∙ sym i.run ∙ stops)

pub loop-preserved : goal.loop-preserved
loop-preserved c =
    let s = c.args.r.now.source in
    let i = c.loop.invariant in
    let n = offset_of s c.loop.offsets c.number.new.self i.offsets _ c.in_ok-offset.ensures in
    let k = seek_of s c.loop.r c.seek.new.self i.source _ c.in_ok-seek.ensures in
    let f = frame_of s c.seek.new.self c.take.new.self k.0 _ c.in_ok-take.ensures in
    record {
      source = f.0;
      offsets = n.0;
      at = offset_next s.order s.«data».now c.args.from c.args.table.pos c.args.n c.loop.counter c.loop-test.true c.requires.1 c.loop.offsets.cursor i.at _ _ n.1;
      run = sym (frame_passed s.order s.«data».now c.args.from c.args.table.pos c.args.n c.loop.counter c.loop-test.true c.requires.1 c.loop.offsets.cursor i.at _ _ n.1 c.loop.r.cursor _ _ _ k.1 f.1) ∙ i.run;
    }

pub returns : goal.returns
returns c =
    let s = c.args.r.now.source in
    let i = c.loop.invariant in
    let none = ap (λ t. t.then) (frames_none s.order s.«data».now c.args.from c.args.table.pos c.args.n c.loop.counter (Ok c.loop.r.cursor) c.loop-test.false) in
    (i.source, ap (λ t. t.then) (sym (left_first s.order s.«data».now c.args.from c.args.n c.args.table c.requires.1 _)) ∙ sym i.run ∙ none)
