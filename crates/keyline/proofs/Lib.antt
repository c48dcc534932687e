pub mod BytesFuel
pub mod CloseLemmas
pub mod CuttingLemmas
pub mod DeskLemmas
pub mod EnvironmentLemmas
pub mod EventLemmas
mod FaultRows
pub mod HeardBytes
pub mod HeardLines
pub mod InvocationLemmas
pub mod KeepingLemmas
pub mod LinesLemmas
pub mod OneByteLemmas
pub mod OpenedLemmas
pub mod OptionsLemmas
pub mod OrderLemmas
pub mod PasteLemmas
pub mod PhraseFuel
pub mod PlayedLemmas
pub mod SessionFuel
pub mod SessionLawLemmas
pub mod SessionSteps
pub mod ShowCourse
mod ShowRows
pub mod ShowSteps
pub mod TranscriptLemmas
pub mod UnmetLemmas
