pub mod JarMaps
pub mod Jars
pub mod JarsFound
