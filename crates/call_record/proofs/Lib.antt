pub mod RecordLemmas
pub mod BytesLemmas
pub mod StrictestLemmas
pub mod BitLemmas
pub mod TextLemmas
