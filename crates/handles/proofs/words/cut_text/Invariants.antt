use Rattle.handles.proofs.Common.{◌≤◌, drop, take, vec_len, IsUtf8, texts_of}
use Rattle.handles.proofs.WordLaws.{Reading}
use Rattle.handles.proofs.words.cut_text.Given as goal

abbrev pub invariant-loop-index : goal.invariant-loop-index
invariant-loop-index l = IsUtf8 l.rest × (l.index ≤ vec_len l.words)
    × Reading l.lengths l.text (drop l.index l.lengths) l.rest (take l.index (texts_of l.words.items))
