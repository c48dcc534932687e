pub mod CourseLemmas
pub mod DirectedLemmas
pub mod DoneLemmas
pub mod EndLemmas
pub mod Exchange
pub mod GapLemmas
pub mod GroupLaws
pub mod JoinedLaws
pub mod KillLaws
pub mod LogLemmas
pub mod NotedLemmas
pub mod RecordLaws
mod RecordRows
pub mod RingLaws
pub mod RingLemmas
mod RingRows
pub mod RootLaws
pub mod RunLemmas
pub mod SpanLemmas
pub mod StandLemmas
pub mod StepLemmas
pub mod StepsLemmas
pub mod StoredLemmas
pub mod UndoLemmas
