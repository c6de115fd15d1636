-- A sequence of frames in memory.
use Rattle.std.specs.Prelude.{◌<◌, ◌≤◌, ◌^◌, length, map}
use Rattle.std.specs.List.{All}
use Rattle.av1_sequence.specs.declared.container.FileFront.{FileFront}
use Rattle.av1_sequence.specs.declared.file.Entry.{Entry}
use Rattle.av1_sequence.specs.declared.file.Entry.TheVariants as kinds
use Rattle.av1_sequence.specs.declared.file.FrameText.{FrameText}
use Rattle.av1_sequence.specs.declared.file.SequenceFile.{SequenceFile}
use Rattle.av1_sequence.specs.declared.head.EntryHead.{EntryHead}
use Rattle.av1_sequence.specs.declared.head.EntryHead.TheVariants as heads
use Rattle.av1_sequence.specs.Frames.{IsHead}
use Rattle.av1_sequence.specs.Grammar.{EntryValue, FileValue, FrameValue, FrontValue, again, coded}
use Rattle.av1_sequence.specs.Kept.{AreFrames}
use Rattle.av1_sequence.specs.Outcomes.{frames_of}

abbrev pub frame_value : FrameText → FrameValue
frame_value f = record { head = f.head; part = f.part.now }

abbrev pub entry_value : Entry → EntryValue
entry_value (kinds.Coded shown frame) = coded shown (frame_value frame)
entry_value (kinds.Again slot refresh) = again slot refresh

abbrev pub front_value : FileFront → FrontValue
front_value f = record { frames = frames_of f.version f.width f.height f.depth f.sampling; count = f.count }

abbrev pub file_value : SequenceFile → FileValue
file_value f = record {
  frames = frames_of f.version f.width f.height f.depth f.sampling;
  entries = map entry_value f.entries.items;
}

-- a frame that was read
pub record IsReadText (f : FrameText) : Type 0 where
  pub head : IsHead f.head
  pub short : length f.part.now ≤ 2 ^ 26

-- the head of an entry that was read
abbrev pub IsReadHead : EntryHead → Type 0
IsReadHead (heads.Coded shown head) = IsHead head
IsReadHead (heads.Again slot refresh) = slot < 8

-- an entry that was read
abbrev pub IsReadEntry : Entry → Type 0
IsReadEntry (kinds.Coded shown frame) = IsReadText frame
IsReadEntry (kinds.Again slot refresh) = slot < 8

-- a sequence that was read
pub record IsReadFile (f : SequenceFile) : Type 0 where
  pub frames : AreFrames (frames_of f.version f.width f.height f.depth f.sampling)
  pub texts : All IsReadEntry f.entries.items
  pub few : length f.entries.items ≤ 65535
