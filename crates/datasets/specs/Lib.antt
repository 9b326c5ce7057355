pub mod DeviceInfos
pub mod Laws
pub mod ObjectInfos
pub mod Readers
pub mod Samples
pub mod StorageInfos
